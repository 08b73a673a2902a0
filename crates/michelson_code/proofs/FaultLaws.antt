-- A script that is typed has no fault.
use Rattle.std.proofs.Common.{◌≡◌, ℕ, ◌+◌, Bool, true, false, List, [], ◌∷◌, inl, inr, refl, ap, sym, subst, arith}
use Rattle.std.specs.List.{list_all}
use Rattle.std.proofs.lemmas.Bool.{and_from, and_parts}
use Rattle.value_core.specs.declared.ty.Ty.{Ty}
use Rattle.michelson_code.specs.declared.instr.Instr.{Instr}
use Rattle.michelson_code.specs.declared.instr.Instr.TheOpen.{Instr-F}
use Rattle.michelson_code.specs.declared.instr.Instr.TheViews.{out-Instr}
use Rattle.michelson_code.specs.declared.script.Script.{Script}
use Rattle.michelson_code.specs.declared.type_fault.TypeKind.{TypeKind}
use Rattle.michelson_code.specs.declared.type_fault.TypeKind.TheVariants as kind
use Rattle.michelson_code.specs.FirstFault.{BodiesEnd, BodiesFault, Breaks, CodeFault, FailsInside, HasTooLarge, InstrFault, IsStart, IsTooTall, Makes, StartsKept, in_dip, in_dip_n, in_map, leaves, begins, ends_on, its_own, inside, this_body, later_body, at_instr, behind_failing, types_of}
use Rattle.michelson_code.specs.Forms.{bodies_of}
use Rattle.michelson_code.specs.Typing.{BodiesTyped, CodeTyped, InstrTyped, IsKept, Outcome, To, Fails, Runs, Start, whole_types, applies, runs, no_body, one_body, goes_on, fails, dip, dip_n, if_true, if_none, if_left, if_cons, loop, loop_left, iter_list, iter_set, iter_map, map_list, map_map, failwith}
use Rattle.michelson_code.specs.WrittenTypes.{has_comparable_keys, has_passable_values, is_well_made, is_within_limits}
use Rattle.michelson_code.proofs.AppendLaws.{code_parts, start_kept}
use Rattle.michelson_code.proofs.OperandCounts.{enough_applies, enough_runs}
use Rattle.michelson_code.proofs.OutcomeLaws.{bodies_once, code_once, left_by, lines_or_bodies, one_after, same_end, same_starts}

-- what an instruction leaves is kept
abbrev pub EndKept : ℕ → Outcome → Type 0
EndKept n (To t) = IsKept n t
EndKept n Fails = Unit {0}

-- the first instruction of a code that isn't empty
pub head_typed : (s : Script) (n : ℕ) (i : Instr) (d : List Instr) (b : List Ty) (o : Outcome) → CodeTyped s n (i ∷ d) b o →
    (q : Outcome) × (InstrTyped s n i b q × EndKept n q)
head_typed s n i d b o (goes_on n' i' d' b' t o' kept typed rest) = (To t, (typed, start_kept s n d t o rest))
head_typed s n i d b o (fails n' i' b' kept typed) = (Fails, (typed, tt))

-- ---- stacks that an instruction makes

starts_kept : (s : Script) (n : ℕ) (cs : List (List Instr)) (st : List Start) (es : List Outcome) → BodiesTyped s n cs st es → (x : Start) → IsStart x st → IsKept (n + x.0) x.1
starts_kept s n cs st es (no_body n') x is = absurd is
starts_kept s n cs st es (one_body n' c more start starts e ends typed rest) x (inl same) =
    subst (λ (y : Start). IsKept (n + y.0) y.1) (sym same) (start_kept s (n + start.0) c start.1 e typed)
starts_kept s n cs st es (one_body n' c more start starts e ends typed rest) x (inr is) = starts_kept s n more starts ends rest x is

pub one_of_kept : (n : ℕ) (st : List Start) → StartsKept n st → (x : Start) → IsStart x st → IsKept (n + x.0) x.1
one_of_kept n [] kept x is = absurd is
one_of_kept n (y ∷ ys) kept x (inl same) = subst (λ (z : Start). IsKept (n + z.0) z.1) (sym same) kept.0
one_of_kept n (y ∷ ys) kept x (inr is) = one_of_kept n ys kept.1 x is

module _ (s : Script) (n : ℕ) (i : Instr) (b : List Ty) where
  -- the ends of the bodies are those that they are typed with
  pub same_ends : (st st' : List Start) (es es' fs : List Outcome) (o o' : Outcome) → Runs (out-Instr i) b st es o → Runs (out-Instr i) b st' es' o' →
      BodiesTyped s n (bodies_of i) st fs → (gs : List Outcome) → BodiesTyped s n (bodies_of i) st' gs → fs ≡ gs
  same_ends st st' es es' fs o o' x y first gs second =
      bodies_once s n (bodies_of i) st fs gs first
      (subst (λ (z : List Start). BodiesTyped s n (bodies_of i) z gs) (sym (same_starts (out-Instr i) b b st st' es es' o o' x y refl)) second)

  made_kept : (o : Outcome) → InstrTyped s n i b o → EndKept n o → (m : ℕ) (u : List Ty) → Makes s n i b m u → IsKept m u
  made_kept o (applies n' i' b' t fit well x) kept m u (leaves v y) = subst (IsKept n) (one_after s (out-Instr i) b b t v x y refl) kept
  made_kept o (applies n' i' b' t fit well x) kept m u (begins st es p start y is) = absurd (lines_or_bodies s (out-Instr i) b b t st es p y x)
  made_kept o (applies n' i' b' t fit well x) kept m u (ends_on st es v y bodies) = absurd (lines_or_bodies s (out-Instr i) b b t st es (To v) y x)
  made_kept o (runs n' i' b' st es q fit x bodies) kept m u (leaves v y) = absurd (lines_or_bodies s (out-Instr i) b b v st es q x y)
  made_kept o (runs n' i' b' st es q fit x bodies) kept m u (begins st' es' p start y is) =
      starts_kept s n (bodies_of i) st es bodies start (subst (IsStart start) (same_starts (out-Instr i) b b st' st es' es p q y x refl) is)
  made_kept o (runs n' i' b' st es q fit x bodies) kept m u (ends_on st' es' v y bodies') =
      let ends : es' ≡ es = same_ends st' st es' es es' (To v) q y x bodies' es bodies in
      let end : q ≡ To v = sym (same_end (out-Instr i) b b st' st es' es (To v) q y x refl ends) in
      subst (EndKept n) end kept

pub kept_is_not_tall : (m : ℕ) (u : List Ty) → IsKept m u → IsTooTall m u → ⊥
kept_is_not_tall m u kept tall = let height = kept.height in omega arith

pub kept_is_not_large : (m : ℕ) (u : List Ty) → IsKept m u → HasTooLarge m u → ⊥
kept_is_not_large m u kept large = let types : list_all is_within_limits u ≡ true = kept.types in cc

-- ---- what an instruction writes

well_made_keys : (ts : List Ty) → list_all is_well_made ts ≡ true → list_all has_comparable_keys ts ≡ true
well_made_keys [] well = refl
well_made_keys (t ∷ ts) well =
    let both = and_parts _ _ well in and_from _ _ (and_parts _ _ both.0).0 (well_made_keys ts both.1)

well_made_values : (ts : List Ty) → list_all is_well_made ts ≡ true → list_all has_passable_values ts ≡ true
well_made_values [] well = refl
well_made_values (t ∷ ts) well =
    let both = and_parts _ _ well in and_from _ _ (and_parts _ _ both.0).1 (well_made_values ts both.1)

failing_end : (t : List Ty) → To t ∷ [] ≡ Fails ∷ [] → ⊥
failing_end t same = cc

module _ {A : Type 0} where
  pub writes_none : (x : Instr-F A) (b : List Ty) (st : List Start) (es : List Outcome) (o : Outcome) → Runs x b st es o → whole_types x ≡ []
  writes_none x b st es o (dip c a u v) = refl
  writes_none x b st es o (dip_n n c items u v long) = refl
  writes_none x b st es o (if_true c d u e f p j) = refl
  writes_none x b st es o (if_none c d a u e f p j) = refl
  writes_none x b st es o (if_left c d l r u e f p j) = refl
  writes_none x b st es o (if_cons c d a u e f p j) = refl
  writes_none x b st es o (loop c u e q) = refl
  writes_none x b st es o (loop_left c l r u e q) = refl
  writes_none x b st es o (iter_list c a u e q) = refl
  writes_none x b st es o (iter_set c a u e q) = refl
  writes_none x b st es o (iter_map c k v u e q) = refl
  writes_none x b st es o (map_list c a r u) = refl
  writes_none x b st es o (map_map c k v r u) = refl
  writes_none x b st es o (failwith a u may) = refl

  pub no_failing : (x : Instr-F A) (b : List Ty) (st : List Start) (es fs : List Outcome) (o : Outcome) → Runs x b st es o → FailsInside x fs → es ≡ fs → ⊥
  no_failing x b st es fs o (dip c a u v) (in_dip c') same = failing_end v same
  no_failing x b st es fs o (dip_n n c items u v long) (in_dip_n n' c') same = failing_end v same
  no_failing x b st es fs o (map_list c a r u) (in_map c') same = failing_end (r ∷ u) same
  no_failing x b st es fs o (map_map c k v r u) (in_map c') same = failing_end (r ∷ u) same
  no_failing x b st es fs o (if_true c d u e f p j) never same = elim never [ ]
  no_failing x b st es fs o (if_none c d a u e f p j) never same = elim never [ ]
  no_failing x b st es fs o (if_left c d l r u e f p j) never same = elim never [ ]
  no_failing x b st es fs o (if_cons c d a u e f p j) never same = elim never [ ]
  no_failing x b st es fs o (loop c u e q) never same = elim never [ ]
  no_failing x b st es fs o (loop_left c l r u e q) never same = elim never [ ]
  no_failing x b st es fs o (iter_list c a u e q) never same = elim never [ ]
  no_failing x b st es fs o (iter_set c a u e q) never same = elim never [ ]
  no_failing x b st es fs o (iter_map c k v u e q) never same = elim never [ ]
  no_failing x b st es fs o (failwith a u may) never same = elim never [ ]

pub none_written : (test : Ty → Bool) (ts : List Ty) → ts ≡ [] → list_all test ts ≡ false → ⊥
none_written test ts none some = let all : list_all test ts ≡ true = ap (list_all test) none in cc

-- ---- an instruction that is typed

module _ (s : Script) (n : ℕ) (i : Instr) (b : List Ty) where
  ends_of : (st : List Start) (es : List Outcome) (o : Outcome) → Runs (out-Instr i) b st es o → BodiesTyped s n (bodies_of i) st es →
      (fs : List Outcome) → BodiesEnd s n i b fs → es ≡ fs
  ends_of st es o x bodies fs other = same_ends s n i b st other.starts es other.line_ends es o other.outcome x other.line bodies fs other.bodies

  pub own_none : (o : Outcome) → InstrTyped s n i b o → EndKept n o → (k : TypeKind) → Breaks s n i b k → ⊥
  own_none o (applies n' i' b' t fit well x) kept kind.StackTooShort short = enough_applies s (out-Instr i) b t short x
  own_none o (runs n' i' b' st es q fit x bodies) kept kind.StackTooShort short = enough_runs (out-Instr i) b st es q short x
  own_none o (applies n' i' b' t fit well x) kept kind.WrongType (inl unfit) = cc
  own_none o (applies n' i' b' t fit well x) kept kind.WrongType (inr none) = none.applies t x
  own_none o (runs n' i' b' st es q fit x bodies) kept kind.WrongType (inl unfit) = cc
  own_none o (runs n' i' b' st es q fit x bodies) kept kind.WrongType (inr none) = none.runs st es q x
  own_none o (applies n' i' b' t fit well x) kept kind.BranchesDiffer d =
      lines_or_bodies s (out-Instr i) b b t d.bodies.starts d.bodies.line_ends d.bodies.outcome d.bodies.line x
  own_none o (runs n' i' b' st es q fit x bodies) kept kind.BranchesDiffer d =
      d.no_line st q (subst (λ (z : List Outcome). Runs (out-Instr i) b st z q) (ends_of st es q x bodies d.ends d.bodies) x)
  own_none o (applies n' i' b' t fit well x) kept kind.NotComparable some = let all = well_made_keys (types_of i) well in cc
  own_none o (runs n' i' b' st es q fit x bodies) kept kind.NotComparable some = none_written has_comparable_keys (types_of i) (writes_none (out-Instr i) b st es q x) some
  own_none o (applies n' i' b' t fit well x) kept kind.BigMapPlace some = let all = well_made_values (types_of i) well in cc
  own_none o (runs n' i' b' st es q fit x bodies) kept kind.BigMapPlace some = none_written has_passable_values (types_of i) (writes_none (out-Instr i) b st es q x) some
  own_none o (applies n' i' b' t fit well x) kept kind.FailNotLast f =
      lines_or_bodies s (out-Instr i) b b t f.bodies.starts f.bodies.line_ends f.bodies.outcome f.bodies.line x
  own_none o (runs n' i' b' st es q fit x bodies) kept kind.FailNotLast f =
      no_failing (out-Instr i) b st es f.ends q x f.inside (ends_of st es q x bodies f.ends f.bodies)
  own_none o typed kept kind.StackTooTall m = kept_is_not_tall m.set_aside m.stack (made_kept s n i b o typed kept m.set_aside m.stack m.made) m.faulty
  own_none o typed kept kind.TypeTooLarge m = kept_is_not_large m.set_aside m.stack (made_kept s n i b o typed kept m.set_aside m.stack m.made) m.faulty
  own_none o typed kept kind.EntryTwice never = never
  own_none o typed kept kind.CodeTooLarge never = never
  own_none o typed kept kind.LastStack never = never

-- ---- code that is typed

mutual
  pub instr_none : (s : Script) (n : ℕ) (i : Instr) (b : List Ty) (path : List ℕ) (k : TypeKind) (o : Outcome) → InstrFault s n i b path k → InstrTyped s n i b o → EndKept n o → ⊥
  instr_none s n i b path k o (its_own n' i' b' k' first) typed kept = own_none s n i b o typed kept k first.holds
  instr_none s n i b path k o (inside n' i' b' st es p path' k' fit x starts fault) (applies n'' i'' b'' t fit' well y) kept =
      lines_or_bodies s (out-Instr i) b b t st es p x y
  instr_none s n i b path k o (inside n' i' b' st es p path' k' fit x starts fault) (runs n'' i'' b'' st' es' q fit' y bodies) kept =
      bodies_none s n (bodies_of i) st path k es' fault
      (subst (λ (z : List Start). BodiesTyped s n (bodies_of i) z es') (same_starts (out-Instr i) b b st' st es' es q p y x refl) bodies)

  pub bodies_none : (s : Script) (n : ℕ) (cs : List (List Instr)) (st : List Start) (path : List ℕ) (k : TypeKind) (es : List Outcome) → BodiesFault s n cs st path k → BodiesTyped s n cs st es → ⊥
  bodies_none s n cs st path k es (this_body n' c more start starts path' k' fault) (one_body n'' c' more' start' starts' e ends typed rest) =
      code_none s (n + start.0) c start.1 path' k e fault typed
  bodies_none s n cs st path k es (later_body n' c more start starts p j path' k' first fault) (one_body n'' c' more' start' starts' e ends typed rest) =
      bodies_none s n more starts (j ∷ path') k ends fault rest

  pub code_none : (s : Script) (n : ℕ) (c : List Instr) (b : List Ty) (path : List ℕ) (k : TypeKind) (o : Outcome) → CodeFault s n c b path k → CodeTyped s n c b o → ⊥
  code_none s n c b path k o (at_instr n' front i d b' t path' k' typed fault) whole =
      let parts = code_parts s n front i d b o whole in
      let between : parts.0 ≡ t = left_by parts.0 t (code_once s n front b (To parts.0) (To t) parts.1.0 typed) in
      let head = head_typed s n i d t o (subst (λ (z : List Ty). CodeTyped s n (i ∷ d) z o) between parts.1.1) in
      instr_none s n i t path' k head.0 fault head.1.0 head.1.1
  code_none s n c b path k o (behind_failing n' front i d b' typed) whole =
      let parts = code_parts s n front i d b o whole in
      let e : To parts.0 ≡ Fails = code_once s n front b (To parts.0) Fails parts.1.0 typed in cc
