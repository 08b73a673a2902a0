-- What reading all tokens of a text tells of it, by the grammar.
use Rattle.std.proofs.Common.{◌≡◌, ℕ, suc, ◌≤◌, true, List, [], ◌∷◌, ◌++◌, length, refl, sym, ap, subst, ◌∙◌, arith, inl, inr, append_assoc, Ok, Err}
use Rattle.std.proofs.lemmas.List.{append-nil}
use Rattle.ligo_tokens.specs.declared.token.Token.{Token}
use Rattle.ligo_tokens.specs.declared.token.Kind.TheVariants as kind
use Rattle.ligo_syntax.specs.declared.fault.Stop.TheVariants as stop
use Rattle.ligo_syntax.specs.declared.fault.Expected.{Expected}
use Rattle.ligo_syntax.specs.declared.fault.Expected.TheVariants as expected
use Rattle.ligo_syntax.specs.declared.program.Definition.TheVariants as definition
use Rattle.ligo_syntax.specs.declared.program.Decl.{Decl}
use Rattle.ligo_syntax.specs.Kinds.{Tokens, Kinds}
use Rattle.ligo_syntax.specs.Classes.{decl_firsts}
use Rattle.ligo_syntax.specs.Rules.{Repeated}
use Rattle.ligo_syntax.specs.Readers.{Read}
use Rattle.ligo_syntax.specs.Depth.{decl_depth, deepest}
use Rattle.ligo_syntax.specs.TypeTrees.{type_name, leaf_pattern}
use Rattle.ligo_syntax.specs.AtomTrees.{leaf_expr}
use Rattle.ligo_syntax.specs.ExprTrees.{cons_arm}
use Rattle.ligo_syntax.specs.TypeGrammar.{IsType, IsPattern, PatternRule, ArmPatternRule}
use Rattle.ligo_syntax.specs.AtomGrammar.{Whole, Atom}
use Rattle.ligo_syntax.specs.ExprGrammar.{IsExpr}
use Rattle.ligo_syntax.specs.Grammar.{DeclRule, IsLooseText}
use Rattle.ligo_syntax.specs.Reading.{decls_at}
use Rattle.ligo_syntax.specs.Faults.{Begins, GoesOn, IsStuck, CanStand}
use Rattle.ligo_syntax.specs.Verdict.{all_of}
use Rattle.ligo_syntax.proofs.RuleLaws.{Same, Rules, Stays, Breaks, Sinks, Law}
use Rattle.ligo_syntax.proofs.Words.{of_kind}
use Rattle.ligo_syntax.proofs.Nodes.{beyond}
use Rattle.ligo_syntax.proofs.TypeLaws.{a_name}
use Rattle.ligo_syntax.proofs.ExprLeasts.{a_number}
use Rattle.ligo_syntax.proofs.DeclLaws.{decl_ext, decl_all, decls_pair, decls_law}
use Rattle.ligo_syntax.proofs.Texts.{stays_of, breaks_of, sinks_of, has_memory, read_all, one_tree, stuck_at, not_ended, fault_goes_on, stuck_behind, ends_there, sunk_at, sunk_goes_on}

-- ---- the least of each kind

name_is_type : IsType 1 (a_name ∷ []) (type_name a_name) []
name_is_type = ((type_name a_name, []), ([], ((type_name a_name, []), ([], inr (a_name, (refl, refl), refl), refl), refl), refl), refl)

name_is_pattern : IsPattern 1 (a_name ∷ []) (leaf_pattern a_name) []
name_is_pattern = ((leaf_pattern a_name, []), ([], inr (a_name, (refl, refl), refl), refl), refl)

cons_is_arm : ArmPatternRule (PatternRule (IsPattern 0)) (a_name ∷ of_kind kind.Cons ∷ a_name ∷ []) (cons_arm (a_name, a_name)) []
cons_is_arm = inr (inr (inr ((a_name, a_name), (of_kind kind.Cons ∷ a_name ∷ [], (refl, refl), ((of_kind kind.Cons, a_name), (a_name ∷ [], (refl, refl), (refl, refl)), refl)), refl)))

number_is_expression : IsExpr 1 Atom (a_number ∷ []) (leaf_expr a_number) []
number_is_expression = ((leaf_expr a_number, []), ([], inr (inr (inr (inr (a_number, (refl, refl), refl)))), refl), refl)

-- ---- texts

abbrev pub Decls : Rules (List Decl)
Decls n = Repeated (DeclRule (IsType n) (IsPattern n) (IsExpr n Whole))

abbrev X : Kinds
X = decl_firsts ++ decl_ext

abbrev Y : Kinds
Y = decl_firsts ++ decl_all

laws : (d : ℕ) → Law Begins Decls (deepest decl_depth) (suc (suc d)) (decls_pair (suc (suc d))) decl_firsts true X Y
laws d = decls_law Begins (λ t r. tt) (λ r. (a_name ∷ [], r, 1, definition.Type (type_name a_name), refl, inr (inr (type_name a_name, name_is_type, refl))))
    (λ r. (a_name ∷ [], r, 1, refl, inl (leaf_pattern a_name, name_is_pattern))) (λ r. (a_name ∷ of_kind kind.Cons ∷ a_name ∷ [], r, 0, refl, inr (cons_arm (a_name, a_name), cons_is_arm)))
    (λ r. (a_number ∷ [], r, 1, Atom, leaf_expr a_number, refl, number_is_expression)) d

-- a text has one tree
pub one_text : (ts : Tokens) (ds es : List Decl) → IsLooseText ts ds → IsLooseText ts es → ds ≡ es
one_text ts ds es r s = one_tree Begins Decls (deepest decl_depth) decls_at decl_firsts true X Y laws refl refl ts ds es r.0 s.0 (r.1) (s.1)

-- what goes on also does so from earlier on
pub shorter_goes : (front : Tokens) (t : Token) (m : Tokens) → GoesOn (front ++ t ∷ m) → GoesOn (front ++ t ∷ [])
shorter_goes front t m g = (m ++ g.0, g.1, subst (λ l. IsLooseText l g.1) (append_assoc front (t ∷ m) g.0 ∙ sym (append_assoc front (t ∷ []) (m ++ g.0))) (g.2))

-- a fault that isn't one of depth
pub record Faulty (ts : Tokens) (k : Expected) (n : ℕ) : Type 0 where
  pub front : Tokens
  pub after : Tokens
  pub whole : ts ≡ front ++ after
  pub left : n ≡ length after
  pub stuck : IsStuck front after
  pub stands : CanStand k front

-- one of depth
pub record Sunk (d : ℕ) (ts : Tokens) (n : ℕ) : Type 0 where
  pub front : Tokens
  pub token : Token
  pub after : Tokens
  pub whole : ts ≡ front ++ token ∷ after
  pub left : n ≡ length (token ∷ after)
  pub goes : GoesOn (front ++ token ∷ [])
  pub deep : (more : Tokens) (n : ℕ) (ds : List Decl) → Decls n ((front ++ token ∷ []) ++ more) ds [] → deepest decl_depth ds ≤ suc (suc d) → ⊥
  pub again : (r : Tokens) → Same (token ∷ after) r → decls_at (suc (suc d)) (front ++ r) ≡ Err (stop.TooDeep (length r))

module _ (d : ℕ) where
  broken : (ts : Tokens) (k : Expected) (n : ℕ) → decls_at (suc (suc d)) ts ≡ Err (stop.Unexpected k n) → Faulty ts k n
  broken ts k n h = faulty (breaks_of Begins Decls (deepest decl_depth) decls_at decl_firsts true X Y laws refl refl d ts k n h) where
    faulty : Breaks Begins (decls_pair (suc (suc d))) decl_firsts true Y ts k n → Faulty ts k n
    faulty s = record {
      front = s.used;
      after = s.rest;
      whole = s.whole;
      left = s.left;
      stuck = stuck s.rest refl;
      stands = (s.more, s.value, subst (Begins k) (append-nil s.more) (s.stands []), (suc (suc (beyond d)), fault_goes_on Begins Decls (deepest decl_depth) decls_at decl_firsts true X Y laws refl refl d ts k n s));
    } where
      stuck : (after : Tokens) → s.rest ≡ after → IsStuck s.used after
      stuck [] w = λ ds r. not_ended Begins Decls (deepest decl_depth) decls_at decl_firsts true X Y laws refl refl d ts k n s w r.0 ds (r.1)
      stuck (t ∷ after) w = λ g. stuck_at Begins Decls (deepest decl_depth) decls_at decl_firsts true X Y laws refl refl d ts k n s t after g.0 w (g.2).0 (g.1) ((g.2).1)

  left_over : (ts : Tokens) (a : List Decl) (t : Token) (after : Tokens) → decls_at (suc (suc d)) ts ≡ Ok (a, t ∷ after) → Faulty ts expected.Token (length (t ∷ after))
  left_over ts a t after h = faulty (stays_of Begins Decls (deepest decl_depth) decls_at decl_firsts true X Y laws refl refl d ts a (t ∷ after) h) where
    faulty : Stays (decls_pair (suc (suc d))) decl_firsts true Y ts a (t ∷ after) → Faulty ts expected.Token (length (t ∷ after))
    faulty s = record {
      front = s.used;
      after = t ∷ after;
      whole = s.whole;
      left = refl;
      stuck = λ g. stuck_behind Begins Decls (deepest decl_depth) decls_at decl_firsts true X Y laws refl refl d ts a (t ∷ after) s t after g.0 refl (g.2).0 (g.1) ((g.2).1);
      stands = ([], a, tt, (suc (suc d), ends_there Begins Decls (deepest decl_depth) decls_at decl_firsts true X Y laws refl refl d ts a (t ∷ after) s));
    }

  sunk : (ts : Tokens) (n : ℕ) → decls_at (suc (suc d)) ts ≡ Err (stop.TooDeep n) → Sunk d ts n
  sunk ts n h = deep (sinks_of Begins Decls (deepest decl_depth) decls_at decl_firsts true X Y laws refl refl d ts n h) where
    deep : Sinks (decls_pair (suc (suc d))) decl_firsts Y ts n → Sunk d ts n
    deep s = record {
      front = s.used;
      token = s.token;
      after = s.after;
      whole = s.whole;
      left = s.left;
      goes = (s.more, s.value, (suc (suc (beyond d)), sunk_goes_on Begins Decls (deepest decl_depth) decls_at decl_firsts true X Y laws refl refl d ts n s));
      deep = sunk_at Begins Decls (deepest decl_depth) decls_at decl_firsts true X Y laws refl refl d ts n s;
      again = s.again;
    }

  -- ---- by what reading all gives

  pub told_text : (ts : Tokens) (ds : List Decl) (x : Read (List Decl)) → decls_at (suc (suc d)) ts ≡ x → all_of x ≡ Ok ds → Decls (suc (suc d)) ts ds [] × (deepest decl_depth ds ≤ suc (suc d))
  told_text ts ds (Ok (a, [])) e h =
      let i : a ≡ ds = cc in
      let j = subst (λ (b : List Decl). Path (Read (List Decl)) (decls_at (suc (suc d)) ts) (Ok (b, []))) i e in
      ((laws d).found (suc (suc d)) ts ds [] (omega arith) j, (laws d).within ts ds [] j)
  told_text ts ds (Ok (a, t ∷ after)) e h = absurd cc
  told_text ts ds (Err s) e h = absurd cc

  pub told_fault : (ts : Tokens) (k : Expected) (n : ℕ) (x : Read (List Decl)) → decls_at (suc (suc d)) ts ≡ x → all_of x ≡ Err (stop.Unexpected k n) → Faulty ts k n
  told_fault ts k n (Ok (a, [])) e h = absurd cc
  told_fault ts k n (Ok (a, t ∷ after)) e h =
      let i : expected.Token ≡ k = cc in
      let j : length (t ∷ after) ≡ n = cc in
      subst (λ (m : ℕ). Faulty ts k m) j (subst (λ (c : Expected). Faulty ts c (length (t ∷ after))) i (left_over ts a t after e))
  told_fault ts k n (Err (stop.Unexpected k' n')) e h =
      let i : k' ≡ k = cc in
      let j : n' ≡ n = cc in
      subst (λ (m : ℕ). Faulty ts k m) j (subst (λ (c : Expected). Faulty ts c n') i (broken ts k' n' e))
  told_fault ts k n (Err (stop.TooDeep m)) e h = absurd cc
  told_fault ts k n (Err stop.NoMemory) e h = absurd cc

  pub told_depth : (ts : Tokens) (n : ℕ) (x : Read (List Decl)) → decls_at (suc (suc d)) ts ≡ x → all_of x ≡ Err (stop.TooDeep n) → Sunk d ts n
  told_depth ts n (Ok (a, [])) e h = absurd cc
  told_depth ts n (Ok (a, t ∷ after)) e h = absurd cc
  told_depth ts n (Err (stop.Unexpected k' n')) e h = absurd cc
  told_depth ts n (Err (stop.TooDeep m)) e h = let i : m ≡ n = cc in subst (λ (m : ℕ). Sunk d ts m) i (sunk ts m e)
  told_depth ts n (Err stop.NoMemory) e h = absurd cc

  pub told_memory : (ts : Tokens) (x : Read (List Decl)) → decls_at (suc (suc d)) ts ≡ x → all_of x ≡ Err stop.NoMemory → ⊥
  told_memory ts (Ok (a, [])) e h = absurd cc
  told_memory ts (Ok (a, t ∷ after)) e h = absurd cc
  told_memory ts (Err (stop.Unexpected k' n')) e h = absurd cc
  told_memory ts (Err (stop.TooDeep m)) e h = absurd cc
  told_memory ts (Err stop.NoMemory) e h = has_memory Begins Decls (deepest decl_depth) decls_at decl_firsts true X Y laws refl refl d ts e

  pub told_only : (n : ℕ) (ts : Tokens) (ds : List Decl) → Decls n ts ds [] → deepest decl_depth ds ≤ suc (suc d) → all_of (decls_at (suc (suc d)) ts) ≡ Ok ds
  told_only n ts ds r le = ap (λ (x : Read (List Decl)). all_of x) (read_all Begins Decls (deepest decl_depth) decls_at decl_firsts true X Y laws refl refl n ts ds r d le)
