-- Operators, applications and atoms are read with greed where they are read without it.
use Rattle.std.proofs.Common.{◌≡◌, ℕ, suc, ◌<◌, ◌≤◌, List, [], ◌∷◌, length, Some, None, refl, sym, ap, subst, arith, inl, inr, fold}
use Rattle.ligo_tokens.specs.declared.token.Token.{Token}
use Rattle.ligo_tokens.specs.declared.token.Kind.TheVariants as kind
use Rattle.ligo_syntax.specs.declared.type_expr.TypeExpr.{TypeExpr}
use Rattle.ligo_syntax.specs.declared.pattern.Pattern.{Pattern}
use Rattle.ligo_syntax.specs.declared.expr.Expr.{Expr}
use Rattle.ligo_syntax.specs.declared.expr.Operator.TheVariants as operator
use Rattle.ligo_syntax.specs.Kinds.{Tokens, Kinds, Ends}
use Rattle.ligo_syntax.specs.Classes.{name_kinds, leaf_kinds, link_kinds, product_kinds, sum_kinds, comparison_kinds}
use Rattle.ligo_syntax.specs.Rules.{Rule, OneOf, Made, Either, Repeated, Key, Parted, greedy, free}
use Rattle.ligo_syntax.specs.AtomTrees.{leaf_expr, dotted, upper_expr, paren_expr, list_expr, field_of, record_inside, with_inside, brace_expr}
use Rattle.ligo_syntax.specs.ExprTrees.{applied, negated, binary, maybe_binary}
use Rattle.ligo_syntax.specs.AtomGrammar.{Form, Whole, Part, Condition, Disjunction, Conjunction, Comparison, Joined, Consed, Sum, Product, Unary, Application, Atom, ParenRule, SquareRule, FieldRule, BraceRule, UpperRule, AtomRule, ApplicationRule}
use Rattle.ligo_syntax.specs.OperatorGrammar.{UnaryRule, ProductRule, SumRule, ConsedRule, JoinedRule, ComparisonRule, ConjunctionRule, DisjunctionRule}
use Rattle.ligo_syntax.specs.ExprGrammar.{FormRule}
use Rattle.ligo_syntax.proofs.Carried.{closers, Carry, Carried, Opens, token_opens, both_opens, made_opens, either_opens, key_opens, from_opens, chain_opens, never_before, opens_before, optional_before, repeated_before, anywhere, token_carried, made_carried, both_carried, either_carried, optional_carried, repeated_carried, key_within, key_carried, from_carried, closed_carried, parted_carried, chain_carried, listed_carried}

-- what mustn't stand behind each form, for that it is read to its end
abbrev pub stops : Form → Kinds
stops Whole = closers
stops Part = closers
stops Condition = closers
stops form = kind.Dot ∷ []

-- ---- what each begins with

module _ (T : Rule TypeExpr) (Pat One : Rule Pattern) (E : Form → Rule Expr) where
  atom_opens : Opens (AtomRule free T Pat One E)
  atom_opens = chain_opens dotted (Key kind.Dot (OneOf link_kinds))
      (either_opens (made_opens paren_expr (from_opens kind.OpenParen _ refl)) (either_opens (made_opens list_expr (from_opens kind.OpenSquare _ refl))
      (either_opens (made_opens brace_expr (from_opens kind.OpenBrace _ refl)) (either_opens (made_opens upper_expr (both_opens _ (token_opens (kind.Upper ∷ []) refl)))
      (made_opens leaf_expr (token_opens leaf_kinds refl))))))

  application_opens : Opens (ApplicationRule free T Pat One E)
  application_opens = made_opens applied (both_opens _ atom_opens)

  unary_opens : Opens (UnaryRule free T Pat One E)
  unary_opens = either_opens (made_opens negated (from_opens kind.Minus _ refl)) application_opens

  product_opens : Opens (ProductRule free T Pat One E)
  product_opens = chain_opens binary _ unary_opens

  sum_opens : Opens (SumRule free T Pat One E)
  sum_opens = chain_opens binary _ product_opens

  consed_opens : Opens (ConsedRule free T Pat One E)
  consed_opens = made_opens (maybe_binary operator.Cons) (both_opens _ sum_opens)

  joined_opens : Opens (JoinedRule free T Pat One E)
  joined_opens = made_opens (maybe_binary operator.Join) (both_opens _ consed_opens)

  comparison_opens : Opens (ComparisonRule free T Pat One E)
  comparison_opens = chain_opens binary _ joined_opens

  conjunction_opens : Opens (ConjunctionRule free T Pat One E)
  conjunction_opens = chain_opens binary _ comparison_opens

-- ---- what each is carried over to

module _ (T T' : Rule TypeExpr) (Pat Pat' One One' : Rule Pattern) (E E' : Form → Rule Expr) (m : ℕ)
    (types : Carried m [] T T') (exprs : (f : Form) → Carried m (stops f) (E f) (E' f)) where
  paren_carried : {X : Kinds} → Carried (suc m) X (ParenRule free T Pat One E) (ParenRule greedy T' Pat' One' E')
  paren_carried = made_carried paren_expr (from_carried kind.OpenParen (either_carried (made_carried (λ t. None) (token_carried (kind.CloseParen ∷ [])))
      (made_carried Some (closed_carried kind.CloseParen (both_carried (exprs Whole) (optional_carried (key_carried kind.Colon (anywhere types)))
      (optional_before (key_opens kind.Colon T refl) refl)) refl))))

  square_carried : {X : Kinds} → Carried (suc m) X (SquareRule free T Pat One E) (SquareRule greedy T' Pat' One' E')
  square_carried = made_carried list_expr (from_carried kind.OpenSquare (closed_carried kind.CloseSquare (optional_carried (listed_carried (exprs Whole))) refl))

  field_carried : Carried m closers (FieldRule free T Pat One E) (FieldRule greedy T' Pat' One' E')
  field_carried = made_carried field_of (both_carried (token_carried name_kinds) (key_carried kind.Equals (exprs Whole)) (never_before (Key kind.Equals (E Whole))))

  brace_carried : {X : Kinds} → Carried (suc m) X (BraceRule free T Pat One E) (BraceRule greedy T' Pat' One' E')
  brace_carried = made_carried brace_expr (from_carried kind.OpenBrace (closed_carried kind.CloseBrace (either_carried (made_carried record_inside (listed_carried field_carried))
      (made_carried with_inside (both_carried (exprs Atom) (key_carried kind.With (parted_carried kind.Semicolon field_carried (repeated_before (key_opens kind.Semicolon (FieldRule free T Pat One E) refl) refl)))
      (opens_before (key_opens kind.With (Parted kind.Semicolon (FieldRule free T Pat One E)) refl) refl)))) refl))

  abbrev Base : Rule Expr
  Base = Either (ParenRule greedy T' Pat' One' E') (Either (SquareRule greedy T' Pat' One' E') (Either (BraceRule greedy T' Pat' One' E') (Either (UpperRule greedy T' Pat' One' E') (Made leaf_expr (OneOf leaf_kinds)))))

  abbrev Dots : Rule (List Token)
  Dots = Repeated (Key kind.Dot (OneOf link_kinds))

  dots_shrink : (between : Tokens) (links : List Token) (after : Tokens) → Dots between links after → length after ≤ length between
  dots_shrink between [] after r = let l = ap length r in omega (arith, l)
  dots_shrink between (t ∷ more) after r =
      let k = (r.1).1 in
      let i = ap length ((k.1).0) in
      let j = ap length ((k.2).0) in
      let le = dots_shrink r.0 more after (r.2) in
      omega (arith, i, j, le)

  -- a base, with its dots behind it
  dots_behind : {G : Rule Expr} {before between after : Tokens} (links : List Token) → ((e : Expr) → G before e between → Base before e between) → Carry G before between → Dots between links after → Carry (AtomRule greedy T' Pat' One' E') before after
  dots_behind {between = between} {after = after} links to c r =
      let le = c.shrinks in
      let le' = dots_shrink between links after r in
      record { tree = fold dotted c.tree links; reads = ((c.tree, links), (between, to c.tree c.reads, r), refl); shrinks = omega (arith, le, le') }

  -- an upper name takes the first of them
  upper_behind : (before between after : Tokens) (u : Token) (links : List Token) → OneOf (kind.Upper ∷ []) before u between → Dots between links after → Ends (kind.Dot ∷ []) after → Carry (AtomRule greedy T' Pat' One' E') before after
  upper_behind before between after u [] one r e =
      let i = ap length (one.0) in
      let j = ap length r in
      record { tree = upper_expr (u, None); reads = ((upper_expr (u, None), []), (between, inr (inr (inr (inl ((u, None), (between, one, inr ((refl, refl), subst (λ ts. Ends (kind.Dot ∷ []) ts) (sym r) e)), refl)))), r), refl); shrinks = omega (arith, i, j) }
  upper_behind before between after u (t ∷ more) one r e =
      let i = ap length (one.0) in
      let j = dots_shrink between (t ∷ more) after r in
      record { tree = fold dotted (upper_expr (u, Some t)) more; reads = ((upper_expr (u, Some t), more), (r.0, inr (inr (inr (inl ((u, Some t), (between, one, inl (t, r.1, refl)), refl)))), r.2), refl); shrinks = omega (arith, i, j) }

  pub atom_carried : Carried (suc m) (kind.Dot ∷ []) (AtomRule free T Pat One E) (AtomRule greedy T' Pat' One' E')
  atom_carried = record { carries = λ before e after lt r ends. by_base before (r.0).0 (r.0).1 (r.1).0 after lt ((r.1).1) ((r.1).2) ends } where
    by_base : (before : Tokens) (b : Expr) (links : List Token) (between after : Tokens) → length before < suc m →
        Either (ParenRule free T Pat One E) (Either (SquareRule free T Pat One E) (Either (BraceRule free T Pat One E) (Either (UpperRule free T Pat One E) (Made leaf_expr (OneOf leaf_kinds))))) before b between →
        Dots between links after → Ends (kind.Dot ∷ []) after → Carry (AtomRule greedy T' Pat' One' E') before after
    by_base before b links between after lt (inl x) r ends = dots_behind links (λ e g. inl g) ((paren_carried {X = []}).carries before b between lt x refl) r
    by_base before b links between after lt (inr (inl x)) r ends = dots_behind links (λ e g. inr (inl g)) ((square_carried {X = []}).carries before b between lt x refl) r
    by_base before b links between after lt (inr (inr (inl x))) r ends = dots_behind links (λ e g. inr (inr (inl g))) ((brace_carried {X = []}).carries before b between lt x refl) r
    by_base before b links between after lt (inr (inr (inr (inl x)))) r ends = by_link (x.1).0 ((x.1).2) ((x.1).1) where
      by_link : (mid : Tokens) → Either (Made Some (Key kind.Dot (OneOf link_kinds))) (λ ts o rest. ((ts ≡ rest) × (o ≡ None)) × Ends [] ts) mid (x.0).1 between → OneOf (kind.Upper ∷ []) before (x.0).0 mid → Carry (AtomRule greedy T' Pat' One' E') before after
      by_link mid (inl l) one = upper_behind before mid after (x.0).0 (l.0 ∷ links) one (between, l.1, r) ends
      by_link mid (inr l) one = upper_behind before between after (x.0).0 links (subst (λ ts. OneOf (kind.Upper ∷ []) before (x.0).0 ts) ((l.0).0) one) r ends
    by_base before b links between after lt (inr (inr (inr (inr x)))) r ends = dots_behind links (λ e g. inr (inr (inr (inr g)))) ((made_carried {m = suc m} {X = []} leaf_expr (token_carried leaf_kinds)).carries before b between lt x refl) r

  application_carried : Carried (suc m) (kind.Dot ∷ []) (ApplicationRule free T Pat One E) (ApplicationRule greedy T' Pat' One' E')
  application_carried = let b = repeated_before (atom_opens T Pat One E) refl in made_carried applied (both_carried atom_carried (repeated_carried atom_carried b) b)

  unary_carried : Carried (suc m) (kind.Dot ∷ []) (UnaryRule free T Pat One E) (UnaryRule greedy T' Pat' One' E')
  unary_carried = either_carried (made_carried negated (from_carried kind.Minus (exprs Unary))) application_carried

  product_carried : Carried (suc m) (kind.Dot ∷ []) (ProductRule free T Pat One E) (ProductRule greedy T' Pat' One' E')
  product_carried = chain_carried binary unary_carried (both_carried (token_carried product_kinds) unary_carried (never_before (UnaryRule free T Pat One E))) (repeated_before (both_opens (UnaryRule free T Pat One E) (token_opens product_kinds refl)) refl)

  sum_carried : Carried (suc m) (kind.Dot ∷ []) (SumRule free T Pat One E) (SumRule greedy T' Pat' One' E')
  sum_carried = chain_carried binary product_carried (both_carried (token_carried sum_kinds) product_carried (never_before (ProductRule free T Pat One E))) (repeated_before (both_opens (ProductRule free T Pat One E) (token_opens sum_kinds refl)) refl)

  consed_carried : Carried (suc m) (kind.Dot ∷ []) (ConsedRule free T Pat One E) (ConsedRule greedy T' Pat' One' E')
  consed_carried = made_carried (maybe_binary operator.Cons) (both_carried sum_carried (optional_carried (key_within kind.Cons (exprs Consed))) (optional_before (key_opens kind.Cons (E Consed) refl) refl))

  joined_carried : Carried (suc m) (kind.Dot ∷ []) (JoinedRule free T Pat One E) (JoinedRule greedy T' Pat' One' E')
  joined_carried = made_carried (maybe_binary operator.Join) (both_carried consed_carried (optional_carried (key_within kind.Caret (exprs Joined))) (optional_before (key_opens kind.Caret (E Joined) refl) refl))

  comparison_carried : Carried (suc m) (kind.Dot ∷ []) (ComparisonRule free T Pat One E) (ComparisonRule greedy T' Pat' One' E')
  comparison_carried = chain_carried binary joined_carried (both_carried (token_carried comparison_kinds) joined_carried (never_before (JoinedRule free T Pat One E))) (repeated_before (both_opens (JoinedRule free T Pat One E) (token_opens comparison_kinds refl)) refl)

  conjunction_carried : Carried (suc m) (kind.Dot ∷ []) (ConjunctionRule free T Pat One E) (ConjunctionRule greedy T' Pat' One' E')
  conjunction_carried = chain_carried binary comparison_carried (both_carried (token_carried (kind.And ∷ [])) comparison_carried (never_before (ComparisonRule free T Pat One E))) (repeated_before (both_opens (ComparisonRule free T Pat One E) (token_opens (kind.And ∷ []) refl)) refl)

  pub disjunction_carried : Carried (suc m) (kind.Dot ∷ []) (DisjunctionRule free T Pat One E) (DisjunctionRule greedy T' Pat' One' E')
  disjunction_carried = chain_carried binary conjunction_carried (both_carried (token_carried (kind.Or ∷ [])) conjunction_carried (never_before (ConjunctionRule free T Pat One E))) (repeated_before (both_opens (ConjunctionRule free T Pat One E) (token_opens (kind.Or ∷ []) refl)) refl)

  -- every form, where those that aren't operators are
  pub forms_carried : Carried (suc m) closers (FormRule free T Pat One E Whole) (FormRule greedy T' Pat' One' E' Whole) → Carried (suc m) closers (FormRule free T Pat One E Part) (FormRule greedy T' Pat' One' E' Part) →
      Carried (suc m) closers (FormRule free T Pat One E Condition) (FormRule greedy T' Pat' One' E' Condition) → (form : Form) → Carried (suc m) (stops form) (FormRule free T Pat One E form) (FormRule greedy T' Pat' One' E' form)
  forms_carried whole part condition Whole = whole
  forms_carried whole part condition Part = part
  forms_carried whole part condition Condition = condition
  forms_carried whole part condition Disjunction = disjunction_carried
  forms_carried whole part condition Conjunction = conjunction_carried
  forms_carried whole part condition Comparison = comparison_carried
  forms_carried whole part condition Joined = joined_carried
  forms_carried whole part condition Consed = consed_carried
  forms_carried whole part condition Sum = sum_carried
  forms_carried whole part condition Product = product_carried
  forms_carried whole part condition Unary = unary_carried
  forms_carried whole part condition Application = application_carried
  forms_carried whole part condition Atom = atom_carried
