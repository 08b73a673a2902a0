-- The law of what stands in braces: fields, or fields that replace those of another record.
use Rattle.std.proofs.Common.{◌≡◌, ℕ, suc, ◌≤◌, Bool, true, false, List, [], ◌∷◌, refl, sym, ap, subst, ◌∙◌, arith, inl, inr, Option, Some, None, Ok, Err}
use Rattle.ligo_tokens.specs.declared.token.Token.{Token}
use Rattle.ligo_tokens.specs.declared.token.Kind.TheVariants as kind
use Rattle.ligo_syntax.specs.declared.fault.Expected.TheVariants as expected
use Rattle.ligo_syntax.specs.declared.expr.Expr.{Expr}
use Rattle.ligo_syntax.specs.declared.expr.ExprForm.{ExprForm}
use Rattle.ligo_syntax.specs.declared.expr.ValueField.{ValueField}
use Rattle.ligo_syntax.specs.Kinds.{Tokens, Kinds}
use Rattle.ligo_syntax.specs.Classes.{name_kinds, atom_firsts, expr_firsts}
use Rattle.ligo_syntax.specs.Rules.{Both, Made, Either, Onward, Key, Parted, Listed, greedy}
use Rattle.ligo_syntax.specs.Readers.{Read, Reader, then_do}
use Rattle.ligo_syntax.specs.Phrases.{key}
use Rattle.ligo_syntax.specs.Depth.{expr_depth, field_depth, deepest}
use Rattle.ligo_syntax.specs.Said.{word_of}
use Rattle.ligo_syntax.specs.AtomTrees.{leaf_expr, field_of, record_inside, with_inside}
use Rattle.ligo_syntax.specs.TypeGrammar.{PatternRule, IsType, IsPattern}
use Rattle.ligo_syntax.specs.AtomGrammar.{Form, Whole, Atom, FieldRule}
use Rattle.ligo_syntax.specs.ExprGrammar.{IsExpr}
use Rattle.ligo_syntax.specs.AtomReading.{field_rule, record_rest, with_rest, brace_rest, brace_inside, name_alone}
use Rattle.ligo_syntax.specs.ExprReading.{form_at, arm_at, firsts_of}
use Rattle.ligo_syntax.proofs.Sets.{apart}
use Rattle.ligo_syntax.proofs.RuleLaws.{Standing, Rules, Pair, Law, Least, token_law, made_law, made_least}
use Rattle.ligo_syntax.proofs.Sequences.{deeper, onward_pair, onward_law_by, both_law, both_least}
use Rattle.ligo_syntax.proofs.Choices.{either_law, either_least}
use Rattle.ligo_syntax.proofs.Loops.{repeated_law, repeated_least}
use Rattle.ligo_syntax.proofs.Deep.{widened, least_widened}
use Rattle.ligo_syntax.proofs.Words.{key_law, key_least}
use Rattle.ligo_syntax.proofs.Moves.{alike_law, refit_made, under, under_law}
use Rattle.ligo_syntax.proofs.Links.{limits}
use Rattle.ligo_syntax.proofs.Semicolons.{MoreOf, more_law, more_least}
use Rattle.ligo_syntax.proofs.Nodes.{beyond, so_deep, node_law, exact_law}
use Rattle.ligo_syntax.proofs.TypeLaws.{a_name}
use Rattle.ligo_syntax.proofs.ExprDepths.{Exprs, inner, inside_depth, field_deep, record_depth, with_depth, no_expr, expr_counts}
use Rattle.ligo_syntax.proofs.ExprLeasts.{atom_ext, op_ext, all_ext, expr_ext, expr_all, expr_least}
use Rattle.ligo_syntax.proofs.ExprCompletes.{inside_ext, inside_all, field_least}
use Rattle.ligo_syntax.proofs.Names.{Inside, name_is, one_name_inside, name_inside}

abbrev pub expr_pair : ℕ → Form → Pair Expr
expr_pair d f i = form_at (limits d (beyond d) i) f

-- fields, with values further inside
abbrev pub Fields : Rules ValueField
Fields n = FieldRule greedy (under IsType n) (under IsPattern n) (PatternRule (under IsPattern n)) (λ g. Inside g n)

abbrev WithRest : Expr → Rules (ℕ × ExprForm)
WithRest first n = Made (λ (p : ValueField × List ValueField). with_inside (first, p)) (Key kind.With (Parted kind.Semicolon (Fields n)))

abbrev field_at : Expr → List ℕ → Expr → ValueField
field_at first word value = record { name = record { at = first.at; word = word }; value = value }

abbrev RecordRest : Expr → List ℕ → Rules (ℕ × ExprForm)
RecordRest first word n = Made (λ (p : Expr × List ValueField). record_inside (field_at first word p.0 ∷ p.1)) (Both (Key kind.Equals (Inside Whole n)) (MoreOf (Fields n)))

abbrev Rest : Expr → Option (List ℕ) → Rules (ℕ × ExprForm)
Rest first None n = WithRest first n
Rest first (Some word) n = Either (RecordRest first word n) (WithRest first n)

-- what stands in braces
abbrev pub Inner : Rules (ℕ × ExprForm)
Inner n = Either (Made record_inside (Listed (Fields n))) (Made with_inside (Both (Inside Atom n) (Key kind.With (Parted kind.Semicolon (Fields n)))))

abbrev rest_firsts : Option (List ℕ) → Kinds
rest_firsts None = kind.With ∷ []
rest_firsts (Some word) = kind.Equals ∷ kind.With ∷ []

not_dot : (o : Option (List ℕ)) → apart (rest_firsts o) atom_ext ≡ true
not_dot None = refl
not_dot (Some word) = refl

module _ (d : ℕ) (e : Form → Reader Expr) (whole : Least (e Whole) expr_firsts false all_ext) where
  with_least : (arm : Reader _) (first : Expr) → Least (with_rest d e arm first) (kind.With ∷ []) false inside_all
  with_least arm first = least_widened (kind.With ∷ []) inside_all (made_least (λ (p : ValueField × List ValueField). with_inside (first, p)) (key_least kind.With
      (both_least (field_least d e arm whole) (repeated_least (key kind.Semicolon (field_rule d e arm)) (kind.Semicolon ∷ []) []) refl))) refl refl

  rest_least : (arm : Reader _) (first : Expr) (o : Option (List ℕ)) → Least (brace_rest d e arm first o) (rest_firsts o) false inside_all
  rest_least arm first None = with_least arm first
  rest_least arm first (Some word) = least_widened (kind.Equals ∷ kind.With ∷ []) inside_all (either_least (record_rest d e arm (record { at = first.at; word = word })) (kind.Equals ∷ []) [] (with_least arm first) refl) refl refl

module _ (S : Standing) (any : (t : Token) (r : Tokens) → S expected.Token (t ∷ r)) (d : ℕ)
    (forms : (f : Form) → Law S (Exprs f) expr_depth d (expr_pair d f) (firsts_of f) false (expr_ext f) (expr_all f)) where
  -- an expression further inside
  pub expr_inside : (f : Form) → Law S (Inside f) inner (suc d) (expr_pair d f) (firsts_of f) false (expr_ext f) (expr_all f)
  expr_inside f = under_law (λ m. IsExpr m f) (λ ts a rest r. r) (λ n ts a rest r. r) (λ n ts a rest r. r) (no_expr f) (forms f)

  abbrev least : (f : Form) → Least (form_at (beyond d) f) (firsts_of f) false (expr_all f)
  least f = expr_least (suc (suc (suc d))) f

  abbrev a_field : Least (field_rule (beyond d) (form_at (beyond d)) (arm_at (beyond d))) name_kinds false all_ext
  a_field = field_least (beyond d) (form_at (beyond d)) (arm_at (beyond d)) (least Whole)

  abbrev field_pair : Pair ValueField
  field_pair i = field_rule (limits d (beyond d) i) (form_at (limits d (beyond d) i)) (arm_at (limits d (beyond d) i))

  field_law : Law S Fields (so_deep field_depth) (suc d) field_pair name_kinds false op_ext all_ext
  field_law = widened name_kinds op_ext all_ext (exact_law field_of (so_deep field_depth) field_deep (both_law (token_law S (suc d) expected.Token name_kinds a_name refl refl (any a_name))
      (key_law S any (suc d) kind.Equals (expr_inside Whole) (least Whole)) (key_least kind.Equals (least Whole)) refl refl)) refl refl refl refl

  with_law : (first : Expr) → inner first ≤ suc d → Law S (WithRest first) inside_depth (suc d) (λ i. with_rest (limits d (beyond d) i) (form_at (limits d (beyond d) i)) (arm_at (limits d (beyond d) i)) first)
      (kind.With ∷ []) false inside_ext inside_all
  with_law first le = widened (kind.With ∷ []) inside_ext inside_all (made_law (λ (p : ValueField × List ValueField). with_inside (first, p)) inside_depth (suc d) (omega arith)
      (λ p m. let i = with_depth (first, p) in omega (arith, i, le, m)) (λ p m. let i = with_depth (first, p) in omega (arith, i, le, m))
      (key_law S any (suc d) kind.With (both_law field_law (repeated_law (key_law S any (suc d) kind.Semicolon field_law a_field) refl refl) (repeated_least (key kind.Semicolon (field_pair true)) (kind.Semicolon ∷ []) all_ext) refl refl)
      (both_least a_field (repeated_least (key kind.Semicolon (field_pair true)) (kind.Semicolon ∷ []) all_ext) refl))) refl refl refl refl

  record_law : (first : Expr) (word : List ℕ) → Law S (RecordRest first word) inside_depth (suc d)
      (λ i. record_rest (limits d (beyond d) i) (form_at (limits d (beyond d) i)) (arm_at (limits d (beyond d) i)) (record { at = first.at; word = word })) (kind.Equals ∷ []) false inside_ext inside_all
  record_law first word = widened (kind.Equals ∷ []) inside_ext inside_all (node_law (λ (p : Expr × List ValueField). record_inside (field_at first word p.0 ∷ p.1)) inside_depth (λ p. record_depth (field_at first word p.0 ∷ p.1))
      (both_law (key_law S any (suc d) kind.Equals (expr_inside Whole) (least Whole)) (more_law field_law refl refl) (more_least (field_pair true) name_kinds all_ext) refl refl)) refl refl refl refl

  rest_law : (first : Expr) → inner first ≤ suc d → (o : Option (List ℕ)) → Law S (Rest first o) inside_depth (suc d) (λ i. brace_rest (limits d (beyond d) i) (form_at (limits d (beyond d) i)) (arm_at (limits d (beyond d) i)) first o)
      (rest_firsts o) false inside_ext inside_all
  rest_law first le None = with_law first le
  rest_law first le (Some word) = widened (kind.Equals ∷ kind.With ∷ []) inside_ext inside_all (either_law (record_law first word) (with_law first le) refl) refl refl refl refl

  abbrev rest_pair : Expr → Pair (ℕ × ExprForm)
  rest_pair first i = brace_rest (limits d (beyond d) i) (form_at (limits d (beyond d) i)) (arm_at (limits d (beyond d) i)) first (name_alone first)

  onward : Law S (λ n. Onward (Inside Atom n) (λ first. Rest first (name_alone first) n)) (deeper inner inside_depth) (suc d) (onward_pair (expr_pair d Atom) rest_pair) atom_firsts false inside_ext inside_all
  onward = widened atom_firsts inside_ext inside_all (onward_law_by {F' = λ first. rest_firsts (name_alone first)} [] (λ first. refl) (expr_inside Atom) (λ first le. rest_law first le (name_alone first))
      (λ first. rest_least (beyond d) (form_at (beyond d)) (least Whole) (arm_at (beyond d)) first (name_alone first)) (λ first. not_dot (name_alone first)) (λ first. not_dot (name_alone first))) refl refl refl refl

  to_inner : (n : ℕ) (ts : Tokens) (first : Expr) (mid : Tokens) (x : ℕ × ExprForm) (rest : Tokens) → Inside Atom n ts first mid → (o : Option (List ℕ)) → name_alone first ≡ o → Rest first o n mid x rest → Inner n ts x rest
  to_inner n ts first mid x rest a None e r = inr ((first, r.0), (mid, a, r.1), r.2)
  to_inner n ts first mid x rest a (Some word) e (inr r) = inr ((first, r.0), (mid, a, r.1), r.2)
  to_inner n ts first mid x rest a (Some word) e (inl r) =
      let t = one_name_inside n ts first mid word a e in
      let v = (r.0).0 in
      let more = (r.1).2 in
      let w : word_of t.0 ≡ word = some_is (sym (name_is t.0 (t.2)) ∙ ap name_alone (sym (t.3)) ∙ e) in
      let f : field_at first word v ≡ field_of (t.0, v) = ap (λ (y : Expr). field_at y word v) (t.3) ∙ ap (λ (l : List ℕ). field_at (leaf_expr t.0) l v) (sym w) in
      inl (field_of (t.0, v) ∷ (r.0).1, ((field_of (t.0, v), more.0), ((r.1).0, ((t.0, v), (mid, (t.1, t.2), (r.1).1), refl), (more.1)), ap (λ l. field_of (t.0, v) ∷ l) (more.2)), r.2 ∙ ap (λ y. record_inside (y ∷ (r.0).1)) f) where
        some_is : {a b : List ℕ} → Path (Option (List ℕ)) (Some a) (Some b) → a ≡ b
        some_is h = cc

  with_as_rest : (first : Expr) (o : Option (List ℕ)) (n : ℕ) (mid : Tokens) (x : ℕ × ExprForm) (rest : Tokens) → WithRest first n mid x rest → Rest first o n mid x rest
  with_as_rest first None n mid x rest r = r
  with_as_rest first (Some word) n mid x rest r = inr r

  from_inner : (n : ℕ) (ts : Tokens) (x : ℕ × ExprForm) (rest : Tokens) → Inner n ts x rest → inside_depth x ≤ suc d →
      (m : ℕ) × (a : Expr × (ℕ × ExprForm)) × Onward (Inside Atom m) (λ first. Rest first (name_alone first) m) ts a rest × (deeper inner inside_depth a ≤ suc d) × (x ≡ a.1)
  from_inner n ts x rest (inr r) le =
      let p = r.0 in
      let i = with_depth p in
      let e : inside_depth x ≡ inside_depth (with_inside p) = ap inside_depth (r.2) in
      (n, (p.0, x), ((r.1).0, (r.1).1, with_as_rest p.0 (name_alone p.0) n (r.1).0 x rest (p.1, (r.1).2, r.2)), omega (arith, i, e, le), refl)
  from_inner n ts x rest (inl r) le =
      let q = (r.1).0 in
      let b = (r.1).1 in
      let f = b.1 in
      let t = (f.0).0 in
      let v = (f.0).1 in
      let k = (f.1).2 in
      let mid = (f.1).0 in
      let is = ((f.1).1).1 in
      let whole : x ≡ record_inside (field_of (t, v) ∷ (q.1).0) = r.2 ∙ ap record_inside ((r.1).2) ∙ ap (λ y. record_inside (y ∷ (q.1).0)) (f.2) in
      let count : 1 ≤ expr_depth v = subst (λ (y : Expr). 1 ≤ expr_depth y) (sym (k.2)) (expr_counts Whole n ((k.1).0) (k.0).1 b.0 ((k.1).2)) in
      let deep : inside_depth x ≡ suc (deepest field_depth (field_of (t, v) ∷ (q.1).0)) = ap inside_depth whole in
      let atom : Inside Atom n ts (leaf_expr t) mid = subst (λ l. Inside Atom n l (leaf_expr t) mid) (sym (((f.1).1).0)) (name_inside n ((k.1).0) (k.0).1 b.0 ((k.1).2) t mid is) in
      let record_rest_of : Rest (leaf_expr t) (Some (word_of t)) n mid x rest = inl ((v, (q.1).0), (b.0, k, (q.1, b.2, refl)), whole) in
      (n, (leaf_expr t, x), (mid, atom, subst (λ o. Rest (leaf_expr t) o n mid x rest) (sym (name_is t is)) record_rest_of), omega (arith, count, deep, le), refl)

  abbrev pub brace_pair : Pair (ℕ × ExprForm)
  brace_pair i = brace_inside (limits d (beyond d) i) (form_at (limits d (beyond d) i)) (arm_at (limits d (beyond d) i))

  peel : (b : Expr) (y : Read (ℕ × ExprForm)) → then_do (then_do y (λ c end. Ok ((b, c), end))) (λ (p : Expr × (ℕ × ExprForm)) rest. Ok (p.1, rest)) ≡ y
  peel b (Ok y) = refl
  peel b (Err e) = refl

  same : (i : Bool) (x : Read Expr) → then_do (then_do x (λ b rest. then_do (rest_pair b i rest) (λ c end. Ok ((b, c), end)))) (λ (p : Expr × (ℕ × ExprForm)) rest. Ok (p.1, rest)) ≡ then_do x (λ first rest. rest_pair first i rest)
  same i (Ok x) = peel x.0 (rest_pair x.0 i x.1)
  same i (Err e) = refl

  pub inside_law : Law S Inner inside_depth (suc d) brace_pair atom_firsts false inside_ext inside_all
  inside_law = alike_law brace_pair (λ i ts. same i (expr_pair d Atom i ts)) (refit_made (λ (p : Expr × (ℕ × ExprForm)). p.1) Inner inside_depth (suc d)
      (λ n ts a rest m h. let r = onward.found n ts a rest m h in to_inner n ts a.0 r.0 a.1 rest (r.1) (name_alone a.0) refl (r.2))
      (λ ts a rest h. let i = onward.within ts a rest h in omega (arith, i)) from_inner onward)
