-- Two faults of a code are one: of one place and one kind.
use Rattle.std.proofs.Common.{◌≡◌, ℕ, zero, suc, ◌+◌, ◌<◌, true, List, [], ◌∷◌, ◌++◌, length, get_or, inl, inr, refl, ap, sym, subst, ◌∙◌, arith}
use Rattle.value_core.specs.declared.ty.Ty.{Ty}
use Rattle.michelson_code.specs.declared.instr.Instr.{Instr}
use Rattle.michelson_code.specs.declared.instr.Instr.TheViews.{out-Instr}
use Rattle.michelson_code.specs.declared.script.Script.{Script}
use Rattle.michelson_code.specs.declared.type_fault.TypeKind.{TypeKind}
use Rattle.michelson_code.specs.declared.type_fault.TypeKind.TheVariants as kind
use Rattle.michelson_code.specs.FirstFault.{BodiesEnd, BodiesFault, Breaks, CodeFault, InstrFault, IsFirst, IsStart, Makes, StartsKept, leaves, begins, ends_on, its_own, inside, this_body, later_body, at_instr, behind_failing, kind_number, types_of}
use Rattle.michelson_code.specs.Forms.{bodies_of}
use Rattle.michelson_code.specs.Typing.{BodiesTyped, CodeTyped, IsKept, Outcome, To, Fails, Runs, Start, is_fit_alone}
use Rattle.michelson_code.specs.WrittenTypes.{has_comparable_keys, has_passable_values}
use Rattle.michelson_code.proofs.FaultLaws.{bodies_none, code_none, kept_is_not_large, kept_is_not_tall, none_written, one_of_kept, writes_none}
use Rattle.michelson_code.proofs.OperandCounts.{enough_runs}
use Rattle.michelson_code.proofs.OutcomeLaws.{code_once, left_by, lines_or_bodies, same_starts}

-- ---- the first kind

abbrev pub every_kind : List TypeKind
every_kind =
    kind.StackTooShort ∷ kind.WrongType ∷ kind.BranchesDiffer ∷ kind.NotComparable ∷ kind.BigMapPlace ∷ kind.EntryTwice ∷
    kind.FailNotLast ∷ kind.StackTooTall ∷ kind.TypeTooLarge ∷ kind.CodeTooLarge ∷ kind.LastStack ∷ []

kind_of_number : (k : TypeKind) → get_or every_kind (kind_number k) kind.LastStack ≡ k
kind_of_number kind.StackTooShort = refl
kind_of_number _ = refl

-- two kinds of one number are one
pub same_number : (k j : TypeKind) → kind_number k ≡ kind_number j → k ≡ j
same_number k j same = sym (kind_of_number k) ∙ ap (λ (n : ℕ). get_or every_kind n kind.LastStack) same ∙ kind_of_number j

pub data Order (m n : ℕ) : Type 0 where
  is_below : m < n → Order m n
  is_above : n < m → Order m n
  is_same : m ≡ n → Order m n

one_up : (m n : ℕ) → Order m n → Order (suc m) (suc n)
one_up m n (is_below h) = is_below (omega arith)
one_up m n (is_above h) = is_above (omega arith)
one_up m n (is_same h) = is_same (ap suc h)

pub order_of : (m n : ℕ) → Order m n
order_of zero zero = is_same refl
order_of zero (suc n) = is_below (omega arith)
order_of (suc m) zero = is_above (omega arith)
order_of (suc m) (suc n) = one_up m n (order_of m n)

module _ (Holds : TypeKind → Type 0) (k j : TypeKind) where
  first_by : IsFirst Holds k → IsFirst Holds j → Order (kind_number k) (kind_number j) → k ≡ j
  first_by one two (is_below h) = absurd (two.none_before k h one.holds)
  first_by one two (is_above h) = absurd (one.none_before j h two.holds)
  first_by one two (is_same h) = same_number k j h

  -- there is one first kind
  pub first_once : IsFirst Holds k → IsFirst Holds j → k ≡ j
  first_once one two = first_by one two (order_of (kind_number k) (kind_number j))

-- one place and one kind
abbrev pub Alike : List ℕ → TypeKind → List ℕ → TypeKind → Type 0
Alike path k path' k' = (path ≡ path') × (k ≡ k')

-- ---- two places in one list

data Meet {A : Type 0} (c : List A) (i : A) (d : List A) (e : List A) (j : A) (f : List A) : Type 0 where
  here : c ≡ e → i ≡ j → Meet c i d e j f
  before : (m : List A) → e ≡ c ++ i ∷ m → Meet c i d e j f
  behind : (m : List A) → c ≡ e ++ j ∷ m → Meet c i d e j f

meet_up : {A : Type 0} (x y : A) (c : List A) (i : A) (d : List A) (e : List A) (j : A) (f : List A) → x ≡ y → Meet c i d e j f → Meet (x ∷ c) i d (y ∷ e) j f
meet_up x y c i d e j f top (here front one) = here (λ k. top k ∷ front k) one
meet_up x y c i d e j f top (before m is) = before m (λ k. sym top k ∷ is k)
meet_up x y c i d e j f top (behind m is) = behind m (λ k. top k ∷ is k)

meet : {A : Type 0} (c : List A) (i : A) (d : List A) (e : List A) (j : A) (f : List A) → c ++ i ∷ d ≡ e ++ j ∷ f → Meet c i d e j f
meet [] i d [] j f same = here refl cc
meet [] i d (y ∷ e) j f same = let top : y ≡ i = cc in before e (λ k. top k ∷ e)
meet (x ∷ c) i d [] j f same = let top : x ≡ j = cc in behind c (λ k. top k ∷ c)
meet (x ∷ c) i d (y ∷ e) j f same =
    let top : x ≡ y = cc in
    let rest : c ++ i ∷ d ≡ e ++ j ∷ f = cc in
    meet_up x y c i d e j f top (meet c i d e j f rest)

-- ---- an instruction's own fault beside one inside

module _ (s : Script) (n : ℕ) (i : Instr) (b : List Ty) (st : List Start) (es : List Outcome) (o : Outcome) (path : List ℕ) (k : TypeKind)
    (fit : is_fit_alone i ≡ true) (x : Runs (out-Instr i) b st es o) (kept : StartsKept n st) (fault : BodiesFault s n (bodies_of i) st path k) where
  bodies_fail : (st' : List Start) (es' gs : List Outcome) (q : Outcome) → Runs (out-Instr i) b st' es' q → BodiesTyped s n (bodies_of i) st' gs → ⊥
  bodies_fail st' es' gs q y bodies =
      bodies_none s n (bodies_of i) st path k gs fault
      (subst (λ (z : List Start). BodiesTyped s n (bodies_of i) z gs) (same_starts (out-Instr i) b b st' st es' es q o y x refl) bodies)

  bodies_do_not_end : (gs : List Outcome) → BodiesEnd s n i b gs → ⊥
  bodies_do_not_end gs e = bodies_fail e.starts e.line_ends gs e.outcome e.line e.bodies

  made_is_kept : (m : ℕ) (u : List Ty) → Makes s n i b m u → IsKept m u
  made_is_kept m u (leaves v y) = absurd (lines_or_bodies s (out-Instr i) b b v st es o x y)
  made_is_kept m u (begins st' es' q start y is) =
      one_of_kept n st kept start (subst (IsStart start) (same_starts (out-Instr i) b b st' st es' es q o y x refl) is)
  made_is_kept m u (ends_on st' es' v y bodies) = absurd (bodies_fail st' es' es' (To v) y bodies)

  own_not_inside : (j : TypeKind) → Breaks s n i b j → ⊥
  own_not_inside kind.StackTooShort short = enough_runs (out-Instr i) b st es o short x
  own_not_inside kind.WrongType (inl unfit) = cc
  own_not_inside kind.WrongType (inr none) = none.runs st es o x
  own_not_inside kind.BranchesDiffer d = bodies_do_not_end d.ends d.bodies
  own_not_inside kind.NotComparable some = none_written has_comparable_keys (types_of i) (writes_none (out-Instr i) b st es o x) some
  own_not_inside kind.BigMapPlace some = none_written has_passable_values (types_of i) (writes_none (out-Instr i) b st es o x) some
  own_not_inside kind.FailNotLast f = bodies_do_not_end f.ends f.bodies
  own_not_inside kind.StackTooTall m = kept_is_not_tall m.set_aside m.stack (made_is_kept m.set_aside m.stack m.made) m.faulty
  own_not_inside kind.TypeTooLarge m = kept_is_not_large m.set_aside m.stack (made_is_kept m.set_aside m.stack m.made) m.faulty
  own_not_inside kind.EntryTwice never = never
  own_not_inside kind.CodeTooLarge never = never
  own_not_inside kind.LastStack never = never

-- ---- two instructions that are at fault

module _ (s : Script) (n : ℕ) (b : List Ty) where
  -- what stands behind a fault isn't typed
  fault_within : (c : List Instr) (i : Instr) (m : List Instr) (e : List Instr) (t : List Ty) (path : List ℕ) (k : TypeKind) (o : Outcome) →
      CodeTyped s n c b (To t) → InstrFault s n i t path k → e ≡ c ++ i ∷ m → CodeTyped s n e b o → ⊥
  fault_within c i m e t path k o typed fault is whole =
      code_none s n (c ++ i ∷ m) b (length c ∷ path) k o (at_instr n c i m b t path k typed fault)
      (subst (λ (z : List Instr). CodeTyped s n z b o) is whole)

  failing_within : (c : List Instr) (i : Instr) (m : List Instr) (e : List Instr) (o : Outcome) → CodeTyped s n c b Fails → e ≡ c ++ i ∷ m → CodeTyped s n e b o → ⊥
  failing_within c i m e o typed is whole =
      code_none s n (c ++ i ∷ m) b (length c ∷ []) kind.FailNotLast o (behind_failing n c i m b typed)
      (subst (λ (z : List Instr). CodeTyped s n z b o) is whole)

  same_place : (c : List Instr) (i : Instr) (d : List Instr) (e : List Instr) (j : Instr) (f : List Instr) (t u : List Ty) (p q : List ℕ) (k l : TypeKind) →
      CodeTyped s n c b (To t) → InstrFault s n i t p k → CodeTyped s n e b (To u) → InstrFault s n j u q l → Meet c i d e j f → (c ≡ e) × (i ≡ j)
  same_place c i d e j f t u p q k l one fault two other (here front same) = (front, same)
  same_place c i d e j f t u p q k l one fault two other (before m is) = absurd (fault_within c i m e t p k (To u) one fault is two)
  same_place c i d e j f t u p q k l one fault two other (behind m is) = absurd (fault_within e j m c u q l (To t) two other is one)

  fault_or_failing : (c : List Instr) (i : Instr) (d : List Instr) (e : List Instr) (j : Instr) (f : List Instr) (t : List Ty) (p : List ℕ) (k : TypeKind) →
      CodeTyped s n c b (To t) → InstrFault s n i t p k → CodeTyped s n e b Fails → Meet c i d e j f → ⊥
  fault_or_failing c i d e j f t p k one fault two (here front same) =
      let equal : To t ≡ Fails = code_once s n e b (To t) Fails (subst (λ (z : List Instr). CodeTyped s n z b (To t)) front one) two in cc
  fault_or_failing c i d e j f t p k one fault two (before m is) = fault_within c i m e t p k Fails one fault is two
  fault_or_failing c i d e j f t p k one fault two (behind m is) = failing_within e j m c (To t) two is one

  both_failing : (c : List Instr) (i : Instr) (d : List Instr) (e : List Instr) (j : Instr) (f : List Instr) →
      CodeTyped s n c b Fails → CodeTyped s n e b Fails → Meet c i d e j f → c ≡ e
  both_failing c i d e j f one two (here front same) = front
  both_failing c i d e j f one two (before m is) = absurd (failing_within c i m e Fails one is two)
  both_failing c i d e j f one two (behind m is) = absurd (failing_within e j m c Fails two is one)

-- ---- one fault

mutual
  pub instr_fault_once : (s : Script) (n : ℕ) (i : Instr) (b : List Ty) (path path' : List ℕ) (k k' : TypeKind) →
      InstrFault s n i b path k → InstrFault s n i b path' k' → Alike path k path' k'
  instr_fault_once s n i b path path' k k' (its_own n' i' b' j first) (its_own n'' i'' b'' j' first') =
      (refl, first_once (Breaks s n i b) k k' first first')
  instr_fault_once s n i b path path' k k' (its_own n' i' b' j first) (inside n'' i'' b'' st es o p j' fit x kept fault) =
      absurd (own_not_inside s n i b st es o path' k' fit x kept fault k first.holds)
  instr_fault_once s n i b path path' k k' (inside n' i' b' st es o p j fit x kept fault) (its_own n'' i'' b'' j' first) =
      absurd (own_not_inside s n i b st es o path k fit x kept fault k' first.holds)
  instr_fault_once s n i b path path' k k' (inside n' i' b' st es o p j fit x kept fault) (inside n'' i'' b'' st' es' o' p' j' fit' y kept' fault') =
      bodies_fault_once s n (bodies_of i) st path path' k k' fault
      (subst (λ (z : List Start). BodiesFault s n (bodies_of i) z path' k') (same_starts (out-Instr i) b b st' st es' es o' o y x refl) fault')

  pub bodies_fault_once : (s : Script) (n : ℕ) (cs : List (List Instr)) (st : List Start) (path path' : List ℕ) (k k' : TypeKind) →
      BodiesFault s n cs st path k → BodiesFault s n cs st path' k' → Alike path k path' k'
  bodies_fault_once s n cs st path path' k k' (this_body n' c more start starts p j fault) (this_body n'' c' more' start' starts' p' j' fault') =
      let inner = code_fault_once s (n + start.0) c c start.1 p p' k k' refl fault fault' in
      (λ z. 0 ∷ inner.0 z, inner.1)
  bodies_fault_once s n cs st path path' k k' (this_body n' c more start starts p j fault) (later_body n'' c' more' start' starts' o m p' j' typed fault') =
      absurd (code_none s (n + start.0) c start.1 p k o fault typed)
  bodies_fault_once s n cs st path path' k k' (later_body n' c more start starts o m p j typed fault) (this_body n'' c' more' start' starts' p' j' fault') =
      absurd (code_none s (n + start.0) c start.1 p' k' o fault' typed)
  bodies_fault_once s n cs st path path' k k' (later_body n' c more start starts o m p j typed fault) (later_body n'' c' more' start' starts' o' m' p' j' typed' fault') =
      let inner = bodies_fault_once s n more starts (m ∷ p) (m' ∷ p') k k' fault fault' in
      let places : m ∷ p ≡ m' ∷ p' = inner.0 in
      let number : m ≡ m' = cc in
      let rest : p ≡ p' = cc in
      (λ z. suc (number z) ∷ rest z, inner.1)

  pub code_fault_once : (s : Script) (n : ℕ) (e e' : List Instr) (b : List Ty) (path path' : List ℕ) (k k' : TypeKind) → e ≡ e' →
      CodeFault s n e b path k → CodeFault s n e' b path' k' → Alike path k path' k'
  code_fault_once s n e e' b path path' k k' same (at_instr n' c i d b' t p j typed fault) (at_instr n'' c' i' d' b'' u p' j' typed' fault') =
      let place = same_place s n b c i d c' i' d' t u p p' k k' typed fault typed' fault' (meet c i d c' i' d' same) in
      let between : u ≡ t = left_by u t (code_once s n c b (To u) (To t) (subst (λ (z : List Instr). CodeTyped s n z b (To u)) (sym place.0) typed') typed) in
      let there : InstrFault s n i t p' k' =
      subst (λ (z : List Ty). InstrFault s n i z p' k') between (subst (λ (z : Instr). InstrFault s n z u p' k') (sym place.1) fault') in
      let inner = instr_fault_once s n i t p p' k k' fault there in
      (λ z. length (place.0 z) ∷ inner.0 z, inner.1)
  code_fault_once s n e e' b path path' k k' same (at_instr n' c i d b' t p j typed fault) (behind_failing n'' c' i' d' b'' typed') =
      absurd (fault_or_failing s n b c i d c' i' d' t p k typed fault typed' (meet c i d c' i' d' same))
  code_fault_once s n e e' b path path' k k' same (behind_failing n' c i d b' typed) (at_instr n'' c' i' d' b'' t p' j' typed' fault') =
      absurd (fault_or_failing s n b c' i' d' c i d t p' k' typed' fault' typed (meet c' i' d' c i d (sym same)))
  code_fault_once s n e e' b path path' k k' same (behind_failing n' c i d b' typed) (behind_failing n'' c' i' d' b'' typed') =
      let front = both_failing s n b c i d c' i' d' typed typed' (meet c i d c' i' d' same) in
      (λ z. length (front z) ∷ [], refl)
