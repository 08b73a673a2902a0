-- When an expression is a name alone.
use Rattle.std.proofs.Common.{◌≡◌, ℕ, zero, suc, ◌+◌, true, ◌||◌, List, [], ◌∷◌, fold, refl, sym, ap, subst, ◌∙◌, inl, inr, ◌⊎◌, Option, Some, None}
use Rattle.ligo_tokens.specs.declared.token.Token.{Token}
use Rattle.ligo_tokens.specs.declared.token.Kind.{Kind}
use Rattle.ligo_tokens.specs.declared.token.Kind.TheVariants as kind
use Rattle.ligo_tokens.specs.declared.token.Says.{Says}
use Rattle.ligo_tokens.specs.declared.token.Says.TheVariants as says
use Rattle.ligo_syntax.specs.declared.type_expr.TypeExpr.{TypeExpr}
use Rattle.ligo_syntax.specs.declared.pattern.Pattern.{Pattern}
use Rattle.ligo_syntax.specs.declared.expr.Expr.{Expr}
use Rattle.ligo_syntax.specs.declared.expr.ExprForm.{ExprForm}
use Rattle.ligo_syntax.specs.declared.expr.ValueField.{ValueField}
use Rattle.ligo_syntax.specs.Kinds.{Tokens, Kinds, code, sort_of, sort, has}
use Rattle.ligo_syntax.specs.Classes.{name_kinds, leaf_kinds, link_kinds}
use Rattle.ligo_syntax.specs.Rules.{Rule, OneOf, Both, Made, Either, Repeated, Key, Parted, Listed, Greed, greedy}
use Rattle.ligo_syntax.specs.Said.{word_of, said_word}
use Rattle.ligo_syntax.specs.TreeNodes.{expr_node}
use Rattle.ligo_syntax.specs.AtomTrees.{leaf_expr, leaf_expr_form, dotted, dot_form, upper_expr, upper_link, link_depth, paren_expr, list_expr, brace_expr, record_inside, with_inside}
use Rattle.ligo_syntax.specs.TypeGrammar.{PatternRule, IsType, IsPattern}
use Rattle.ligo_syntax.specs.AtomGrammar.{Form, Whole, Atom, FieldRule, AtomRule, ParenRule, SquareRule, BraceRule, UpperRule}
use Rattle.ligo_syntax.specs.ExprGrammar.{IsExpr}
use Rattle.ligo_syntax.specs.AtomReading.{name_alone}
use Rattle.ligo_syntax.proofs.Sets.{by_case, has_append, in_second}
use Rattle.ligo_syntax.proofs.Moves.{under}

-- one token of a name
abbrev pub NameToken : Tokens → Expr → Tokens → Type 0
NameToken ts e rest = (t : Token) × (ts ≡ t ∷ rest) × (has name_kinds (sort t) ≡ true) × (e ≡ leaf_expr t)

abbrev literal_kinds : Kinds
literal_kinds = kind.Int ∷ kind.Nat ∷ kind.Tez ∷ kind.Bytes ∷ kind.Text ∷ []

pub sort_is : (k : Kind) (said : Option Says) → (sort_of k said ≡ 64) ⊎ (sort_of k said ≡ code k)
sort_is k None = inr refl
sort_is k (Some says.Wide) = inl refl
sort_is k (Some said) = inr refl

literal_at : (k : Kind) (at : ℕ) (said : Option Says) → has literal_kinds (code k) ≡ true → name_alone (expr_node at 1 (leaf_expr_form k said)) ≡ None
unfolding Rattle.ligo_syntax.specs.declared.expr.ExprForm.TheViews.out-ExprForm denote.Hole.Carrier.out
literal_at kind.Int at said h = refl
literal_at kind.Nat at said h = refl
literal_at kind.Tez at said h = refl
literal_at kind.Bytes at said h = refl
literal_at kind.Text at said h = refl
literal_at k at said h = absurd cc

name_at : (k : Kind) (at : ℕ) (said : Option Says) → has name_kinds (code k) ≡ true → name_alone (expr_node at 1 (leaf_expr_form k said)) ≡ Some (said_word said)
unfolding Rattle.ligo_syntax.specs.declared.expr.ExprForm.TheViews.out-ExprForm denote.Hole.Carrier.out
name_at kind.Name at said h = refl
name_at kind.List at said h = refl
name_at kind.Option at said h = refl
name_at kind.Contract at said h = refl
name_at kind.Map at said h = refl
name_at kind.BigMap at said h = refl
name_at k at said h = absurd cc

-- a literal is no name
literal_is : (t : Token) → has literal_kinds (sort t) ≡ true → name_alone (leaf_expr t) ≡ None
literal_is t h = by_sort (sort_is t.kind t.says) where
  by_sort : (sort t ≡ 64) ⊎ (sort t ≡ code t.kind) → name_alone (leaf_expr t) ≡ None
  by_sort (inl e) = let f : has literal_kinds 64 ≡ true = ap (has literal_kinds) (sym e) ∙ h in absurd cc
  by_sort (inr e) = literal_at t.kind t.at t.says (ap (has literal_kinds) (sym e) ∙ h)

pub name_is : (t : Token) → has name_kinds (sort t) ≡ true → name_alone (leaf_expr t) ≡ Some (word_of t)
name_is t h = by_sort (sort_is t.kind t.says) where
  by_sort : (sort t ≡ 64) ⊎ (sort t ≡ code t.kind) → name_alone (leaf_expr t) ≡ Some (word_of t)
  by_sort (inl e) = let f : has name_kinds 64 ≡ true = ap (has name_kinds) (sym e) ∙ h in absurd cc
  by_sort (inr e) = name_at t.kind t.at t.says (ap (has name_kinds) (sym e) ∙ h)

-- ---- what is no name

not_dotted : (e : Expr) (t : Token) (k : Kind) (at depth : ℕ) → name_alone (expr_node at depth (dot_form e t k)) ≡ None
unfolding Rattle.ligo_syntax.specs.declared.expr.ExprForm.TheViews.out-ExprForm denote.Hole.Carrier.out
not_dotted e t kind.Int at depth = refl
not_dotted e t k at depth = refl

not_links : (b : Expr) (a : Token) (more : List Token) → name_alone (fold dotted b (a ∷ more)) ≡ None
not_links b a [] = not_dotted b a a.kind b.at (1 + b.depth)
not_links b a (c ∷ more) = not_links (dotted b a) c more

not_link : (u t : Token) (k : Kind) (at depth : ℕ) → name_alone (expr_node at depth (upper_link u t k)) ≡ None
unfolding Rattle.ligo_syntax.specs.declared.expr.ExprForm.TheViews.out-ExprForm denote.Hole.Carrier.out
not_link u t kind.Int at depth = refl
not_link u t k at depth = refl

not_upper : (p : Token × Option Token) → name_alone (upper_expr p) ≡ None
unfolding Rattle.ligo_syntax.specs.declared.expr.ExprForm.TheViews.out-ExprForm denote.Hole.Carrier.out
not_upper (u, None) = refl
not_upper (u, Some t) = not_link u t t.kind u.at (1 + link_depth t)

not_paren : (p : ℕ × Option (Expr × Option TypeExpr)) → name_alone (paren_expr p) ≡ None
unfolding Rattle.ligo_syntax.specs.declared.expr.ExprForm.TheViews.out-ExprForm denote.Hole.Carrier.out
not_paren (at, None) = refl
not_paren (at, Some (e, None)) = refl
not_paren (at, Some (e, Some t)) = refl

not_list : (p : ℕ × Option (List Expr)) → name_alone (list_expr p) ≡ None
unfolding Rattle.ligo_syntax.specs.declared.expr.ExprForm.TheViews.out-ExprForm denote.Hole.Carrier.out
not_list (at, items) = refl

no_name : {P : Type 0} (word : List ℕ) (a b : Expr) → name_alone a ≡ Some word → a ≡ b → name_alone b ≡ None → P
no_name word a b h e n = let f : None ≡ Some word = sym n ∙ ap name_alone (sym e) ∙ h in absurd cc

record_name : (at : ℕ) (l : List ValueField) → name_alone (brace_expr (at, record_inside l)) ≡ None
unfolding Rattle.ligo_syntax.specs.declared.expr.ExprForm.TheViews.out-ExprForm denote.Hole.Carrier.out
record_name at l = refl

with_name : (at : ℕ) (l : Expr × (ValueField × List ValueField)) → name_alone (brace_expr (at, with_inside l)) ≡ None
unfolding Rattle.ligo_syntax.specs.declared.expr.ExprForm.TheViews.out-ExprForm denote.Hole.Carrier.out
with_name at l = refl

inside_name : (R : Rule (List ValueField)) (R' : Rule (Expr × (ValueField × List ValueField))) (ts : Tokens) (x : ℕ × ExprForm) (rest : Tokens) (at : ℕ) →
    Either (Made record_inside R) (Made with_inside R') ts x rest → name_alone (brace_expr (at, x)) ≡ None
inside_name R R' ts x rest at (inl l) = ap (λ (y : ℕ × ExprForm). name_alone (brace_expr (at, y))) (l.2) ∙ record_name at l.0
inside_name R R' ts x rest at (inr l) = ap (λ (y : ℕ × ExprForm). name_alone (brace_expr (at, y))) (l.2) ∙ with_name at l.0

module _ (must : Greed) (T : Rule TypeExpr) (Pat One : Rule Pattern) (E : Form → Rule Expr) where
  not_brace : (ts : Tokens) (b : Expr) (rest : Tokens) → BraceRule must T Pat One E ts b rest → name_alone b ≡ None
  not_brace ts b rest r =
      let f = r.1 in
      let c = (f.1).2 in
      ap name_alone (r.2) ∙ ap (λ (q : ℕ × (ℕ × ExprForm)). name_alone (brace_expr q)) (f.2) ∙ ap (λ (x : ℕ × ExprForm). name_alone (brace_expr ((f.0).0.at, x))) (c.2) ∙ inside_name (Listed (FieldRule must T Pat One E)) (Both (E Atom) (Key kind.With (Parted kind.Semicolon (FieldRule must T Pat One E)))) (f.1).0 (c.0).0 (c.1).0 (f.0).0.at ((c.1).1)

  base_name : (ts : Tokens) (b : Expr) (mid : Tokens) (word : List ℕ) → name_alone b ≡ Some word →
      Either (ParenRule must T Pat One E) (Either (SquareRule must T Pat One E) (Either (BraceRule must T Pat One E) (Either (UpperRule must T Pat One E) (Made leaf_expr (OneOf leaf_kinds))))) ts b mid → NameToken ts b mid
  base_name ts b mid word h (inl r) = no_name word b (paren_expr r.0) h (r.2) (not_paren r.0)
  base_name ts b mid word h (inr (inl r)) = no_name word b (list_expr r.0) h (r.2) (not_list r.0)
  base_name ts b mid word h (inr (inr (inl r))) = no_name word b b h refl (not_brace ts b mid r)
  base_name ts b mid word h (inr (inr (inr (inl r)))) = no_name word b (upper_expr r.0) h (r.2) (not_upper r.0)
  base_name ts b mid word h (inr (inr (inr (inr r)))) = by_case (has literal_kinds (sort r.0))
      (λ is. no_name word b (leaf_expr r.0) h (r.2) (literal_is r.0 is))
      (λ is. (r.0, (r.1).0, ap (λ x. x || has name_kinds (sort r.0)) (sym is) ∙ sym (has_append literal_kinds name_kinds (sort r.0)) ∙ (r.1).1, r.2))

  atom_name : (ts : Tokens) (b : Expr) (links : List Token) (mid rest : Tokens) (word : List ℕ) → name_alone (fold dotted b links) ≡ Some word →
      Either (ParenRule must T Pat One E) (Either (SquareRule must T Pat One E) (Either (BraceRule must T Pat One E) (Either (UpperRule must T Pat One E) (Made leaf_expr (OneOf leaf_kinds))))) ts b mid →
      Repeated (Key kind.Dot (OneOf link_kinds)) mid links rest → NameToken ts (fold dotted b links) rest
  atom_name ts b [] mid rest word h r k = subst (NameToken ts b) k (base_name ts b mid word h r)
  atom_name ts b (a ∷ more) mid rest word h r k = no_name word (fold dotted b (a ∷ more)) (fold dotted b (a ∷ more)) h refl (not_links b a more)

  -- an atom that is a name alone is one token
  one_name : (ts : Tokens) (e : Expr) (rest : Tokens) (word : List ℕ) → AtomRule must T Pat One E ts e rest → name_alone e ≡ Some word → NameToken ts e rest
  one_name ts e rest word r h = subst (λ x. NameToken ts x rest) (sym (r.2)) (atom_name ts (r.0).0 (r.0).1 (r.1).0 rest word (ap name_alone (sym (r.2)) ∙ h) ((r.1).1) ((r.1).2))

  -- and a name is one
  a_name_is : (t : Token) (rest : Tokens) → has name_kinds (sort t) ≡ true → AtomRule must T Pat One E (t ∷ rest) (leaf_expr t) rest
  a_name_is t rest h = ((leaf_expr t, []), (rest, inr (inr (inr (inr (t, (refl, in_second literal_kinds name_kinds (sort t) h), refl)))), refl), refl)

-- the same further inside
abbrev pub Inside : Form → ℕ → Rule Expr
Inside f n = under (λ m. IsExpr m f) n

pub one_name_inside : (n : ℕ) (ts : Tokens) (e : Expr) (rest : Tokens) (word : List ℕ) → Inside Atom n ts e rest → name_alone e ≡ Some word → NameToken ts e rest
one_name_inside zero ts e rest word r h = absurd r
one_name_inside (suc zero) ts e rest word r h = absurd r
one_name_inside (suc (suc n)) ts e rest word r h = one_name greedy (IsType n) (IsPattern n) (PatternRule (IsPattern n)) (IsExpr n) ts e rest word r h

pub name_inside : (n : ℕ) (us : Tokens) (e : Expr) (end : Tokens) → Inside Whole n us e end → (t : Token) (rest : Tokens) → has name_kinds (sort t) ≡ true → Inside Atom n (t ∷ rest) (leaf_expr t) rest
name_inside zero us e end r t rest h = absurd r
name_inside (suc zero) us e end r t rest h = absurd r
name_inside (suc (suc n)) us e end r t rest h = a_name_is greedy (IsType n) (IsPattern n) (PatternRule (IsPattern n)) (IsExpr n) t rest h
