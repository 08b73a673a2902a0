-- The lines of operands: on one stack an instruction has at most one line, and its operands determine its results.
use Rattle.std.proofs.Common.{◌≡◌, ℕ, Bool, true, false, List, [], ◌∷◌, ◌++◌, map, get_or, Some, inl, inr, refl, ap, sym, subst, ◌∙◌}
use Rattle.std.specs.Prelude.{◌&&◌, ◌||◌, ◌==◌, not}
use Rattle.std.specs.List.{list_all, list_any, AllByRecursion}
use Rattle.std.proofs.lemmas.Bool.{and_parts, eq-eqb, eqb-true, or_cases}
use Rattle.value_core.specs.declared.ty.Ty.{Ty}
use Rattle.value_core.specs.declared.ty.Ty.TheVariants as type
use Rattle.value_core.specs.declared.ty.Ty.TheOpen as ty
use Rattle.michelson_code.specs.declared.instr.Instr.TheOpen as one
use Rattle.michelson_code.specs.declared.instr.Instr.TheOpen.{Instr-F}
use Rattle.michelson_code.specs.declared.operands.Level.{Level}
use Rattle.michelson_code.specs.declared.operands.Level.TheVariants as level
use Rattle.michelson_code.specs.declared.operands.Line.{Line}
use Rattle.michelson_code.specs.declared.operands.Part.{Part}
use Rattle.michelson_code.specs.declared.operands.Part.TheVariants as part
use Rattle.michelson_code.specs.declared.operands.Slot.{Slot}
use Rattle.michelson_code.specs.declared.operands.Slot.TheVariants as slot
use Rattle.michelson_code.specs.Operands.{lines}
use Rattle.michelson_code.specs.declared.script.Script.{Script}
use Rattle.michelson_code.specs.Typing.{Choice, IsOneOf, given_types, level_type, part_type, slot_list, slot_type, slot_types}
use Rattle.michelson_code.proofs.Types.{level_kind, one_kind, option_part, shown_alike}

-- ---- the parts of a line

abbrev part_number : Part → ℕ
part_number part.A = 0
part_number part.B = 1
part_number part.K = 2
part_number part.T = 3
part_number part.U = 4
part_number part.Int = 5
part_number part.Nat = 6
part_number part.Mutez = 7
part_number part.Text = 8
part_number part.Bytes = 9

-- a part that isn't left to the operands
abbrev is_fixed : Part → Bool
is_fixed part.A = false
is_fixed part.B = false
is_fixed part.K = false
is_fixed _ = true

abbrev parts_in : Level Part → List Part
parts_in (level.Option p) = p ∷ []
parts_in (level.Or p q) = p ∷ q ∷ []
parts_in (level.Pair p q) = p ∷ q ∷ []
parts_in (level.List p) = p ∷ []
parts_in (level.Set p) = p ∷ []
parts_in (level.Map p q) = p ∷ q ∷ []
parts_in (level.BigMap p q) = p ∷ q ∷ []
parts_in (level.Contract p) = p ∷ []
parts_in _ = []

abbrev parts_of : Slot → List Part
parts_of (slot.Whole p) = p ∷ []
parts_of (slot.Of x) = parts_in x
parts_of (slot.OptionOf x) = parts_in x

abbrev parts_of_all : List Slot → List Part
parts_of_all [] = []
parts_of_all (x ∷ xs) = parts_of x ++ parts_of_all xs

-- ---- what two choices agree on

module _ (c d : Choice) where
  abbrev Agree : Part → Type 0
  Agree p = part_type c p ≡ part_type d p

  abbrev AllAgree : List Part → Type 0
  AllAgree = AllByRecursion Agree

  all_of_both : (ps qs : List Part) → AllAgree ps → AllAgree qs → AllAgree (ps ++ qs)
  all_of_both [] qs here there = there
  all_of_both (p ∷ ps) qs here there = (here.0, all_of_both ps qs here.1 there)

  first_of_both : (ps qs : List Part) → AllAgree (ps ++ qs) → AllAgree ps
  first_of_both [] qs all = tt
  first_of_both (p ∷ ps) qs all = (all.0, first_of_both ps qs all.1)

  second_of_both : (ps qs : List Part) → AllAgree (ps ++ qs) → AllAgree qs
  second_of_both [] qs all = all
  second_of_both (p ∷ ps) qs all = second_of_both ps qs all.1

  -- equal types have equal parts
  level_parts : (x : Level Part) → level_type (part_type c) x ≡ level_type (part_type d) x → AllAgree (parts_in x)
  level_parts (level.Option p) same =
      let shown : ty.Option (part_type c p) ≡ ty.Option (part_type d p) = shown_alike (part_type c) (part_type d) (level.Option p) (level.Option p) same in (cc, tt)
  level_parts (level.Or p q) same =
      let shown : ty.Or (part_type c p) (part_type c q) ≡ ty.Or (part_type d p) (part_type d q) = shown_alike (part_type c) (part_type d) (level.Or p q) (level.Or p q) same in (cc, (cc, tt))
  level_parts (level.Pair p q) same =
      let shown : ty.Pair (part_type c p) (part_type c q) ≡ ty.Pair (part_type d p) (part_type d q) = shown_alike (part_type c) (part_type d) (level.Pair p q) (level.Pair p q) same in (cc, (cc, tt))
  level_parts (level.List p) same =
      let shown : ty.List (part_type c p) ≡ ty.List (part_type d p) = shown_alike (part_type c) (part_type d) (level.List p) (level.List p) same in (cc, tt)
  level_parts (level.Set p) same =
      let shown : ty.Set (part_type c p) ≡ ty.Set (part_type d p) = shown_alike (part_type c) (part_type d) (level.Set p) (level.Set p) same in (cc, tt)
  level_parts (level.Map p q) same =
      let shown : ty.Map (part_type c p) (part_type c q) ≡ ty.Map (part_type d p) (part_type d q) = shown_alike (part_type c) (part_type d) (level.Map p q) (level.Map p q) same in (cc, (cc, tt))
  level_parts (level.BigMap p q) same =
      let shown : ty.BigMap (part_type c p) (part_type c q) ≡ ty.BigMap (part_type d p) (part_type d q) = shown_alike (part_type c) (part_type d) (level.BigMap p q) (level.BigMap p q) same in (cc, (cc, tt))
  level_parts (level.Contract p) same =
      let shown : ty.Contract (part_type c p) ≡ ty.Contract (part_type d p) = shown_alike (part_type c) (part_type d) (level.Contract p) (level.Contract p) same in (cc, tt)
  level_parts _ same = tt

  slot_parts : (x : Slot) → slot_type c x ≡ slot_type d x → AllAgree (parts_of x)
  slot_parts (slot.Whole p) same = (same, tt)
  slot_parts (slot.Of x) same = level_parts x same
  slot_parts (slot.OptionOf x) same = level_parts x (option_part _ _ same)

  -- equal operands have equal parts, and the same below them
  operands_parts : (xs : List Slot) (below other : List Ty) → map (slot_type c) xs ++ below ≡ map (slot_type d) xs ++ other → AllAgree (parts_of_all xs) × (below ≡ other)
  operands_parts [] below other same = (tt, same)
  operands_parts (x ∷ xs) below other same =
      let here : slot_type c x ≡ slot_type d x = cc in
      let behind : map (slot_type c) xs ++ below ≡ map (slot_type d) xs ++ other = cc in
      let more = operands_parts xs below other behind in
      (all_of_both (parts_of x) (parts_of_all xs) (slot_parts x here) more.0, more.1)

  -- types of equal parts are equal
  level_of_parts : (x : Level Part) → AllAgree (parts_in x) → level_type (part_type c) x ≡ level_type (part_type d) x
  level_of_parts (level.Option p) all = ap type.Option all.0
  level_of_parts (level.Or p q) all = λ i. type.Or (all.0 i) (all.1.0 i)
  level_of_parts (level.Pair p q) all = λ i. type.Pair (all.0 i) (all.1.0 i)
  level_of_parts (level.List p) all = ap type.List all.0
  level_of_parts (level.Set p) all = ap type.Set all.0
  level_of_parts (level.Map p q) all = λ i. type.Map (all.0 i) (all.1.0 i)
  level_of_parts (level.BigMap p q) all = λ i. type.BigMap (all.0 i) (all.1.0 i)
  level_of_parts (level.Contract p) all = ap type.Contract all.0
  level_of_parts level.Unit all = refl
  level_of_parts _ all = refl

  slot_of_parts : (x : Slot) → AllAgree (parts_of x) → slot_type c x ≡ slot_type d x
  slot_of_parts (slot.Whole p) all = all.0
  slot_of_parts (slot.Of x) all = level_of_parts x all
  slot_of_parts (slot.OptionOf x) all = ap type.Option (level_of_parts x all)

  results_of_parts : (xs : List Slot) → AllAgree (parts_of_all xs) → map (slot_type c) xs ≡ map (slot_type d) xs
  results_of_parts [] all = refl
  results_of_parts (x ∷ xs) all = λ i.
      slot_of_parts x (first_of_both (parts_of x) (parts_of_all xs) all) i
      ∷ results_of_parts xs (second_of_both (parts_of x) (parts_of_all xs) all) i

  fixed_agree : c.written ≡ d.written → (p : Part) → is_fixed p ≡ true → Agree p
  fixed_agree written part.A fixed = cc
  fixed_agree written part.B fixed = cc
  fixed_agree written part.K fixed = cc
  fixed_agree written part.T fixed = ap (λ (ts : List Ty). get_or ts 0 type.Unit) written
  fixed_agree written part.U fixed = ap (λ (ts : List Ty). get_or ts 1 type.Unit) written
  fixed_agree written part.Int fixed = refl
  fixed_agree written part.Nat fixed = refl
  fixed_agree written part.Mutez fixed = refl
  fixed_agree written part.Text fixed = refl
  fixed_agree written part.Bytes fixed = refl

-- ---- results have no parts of their own

abbrev same_part : Part → Part → Bool
same_part p q = part_number p == part_number q

abbrev is_known : List Part → Part → Bool
is_known ps p = is_fixed p || list_any (same_part p) ps

abbrev is_closed : Line → Bool
is_closed l = list_all (is_known (parts_of_all (slot_list l.0))) (parts_of_all (slot_list l.1))

lines_closed : {A : Type 0} (x : Instr-F A) → list_all is_closed (lines x) ≡ true
lines_closed one.Drop = refl
lines_closed _ = refl

-- ---- two lines never fit one stack

abbrev kinds_differ : ℕ → ℕ → Bool
kinds_differ m n = not (m == n)

abbrev differ : Slot → Slot → Bool
differ (slot.Of x) (slot.Of y) = kinds_differ (level_kind x) (level_kind y)
differ (slot.Of x) (slot.OptionOf y) = kinds_differ (level_kind x) 9
differ (slot.OptionOf x) (slot.Of y) = kinds_differ 9 (level_kind y)
differ _ _ = false

abbrev are_apart : List Slot → List Slot → Bool
are_apart (x ∷ xs) (y ∷ ys) = differ x y || are_apart xs ys
are_apart _ _ = false

abbrev lie_apart : Line → Line → Bool
lie_apart l m = are_apart (slot_list l.0) (slot_list m.0)

abbrev all_apart : List Line → Bool
all_apart [] = true
all_apart (l ∷ ls) = list_all (lie_apart l) ls && all_apart ls

lines_apart : {A : Type 0} (x : Instr-F A) → all_apart (lines x) ≡ true
lines_apart one.Drop = refl
lines_apart _ = refl

-- ---- what these tests say

abbrev every_part : List Part
every_part =
    part.A ∷ part.B ∷ part.K ∷ part.T ∷ part.U ∷ part.Int ∷ part.Nat ∷ part.Mutez ∷ part.Text ∷ part.Bytes ∷ []

part_of_number : (p : Part) → get_or every_part (part_number p) part.A ≡ p
part_of_number part.A = refl
part_of_number _ = refl

same_part_is : (p q : Part) → same_part p q ≡ true → p ≡ q
same_part_is p q same =
    sym (part_of_number p) ∙ ap (λ (n : ℕ). get_or every_part n part.A) (eqb-true (part_number p) (part_number q) same)
    ∙ part_of_number q

module _ (P : Part → Type 0) where
  among : (ps : List Part) (p : Part) → list_any (same_part p) ps ≡ true → AllByRecursion P ps → P p
  among [] p some all = cc
  among (q ∷ ps) p some all = elim (or_cases _ _ some) [ inl here ↦ subst P (sym (same_part_is p q here)) all.0 | inr there ↦ among ps p there all.1 ]

  known : (ps : List Part) (p : Part) → is_known ps p ≡ true → AllByRecursion P ps → ((q : Part) → is_fixed q ≡ true → P q) → P p
  known ps p is all fixed = elim (or_cases _ _ is) [ inl h ↦ fixed p h | inr h ↦ among ps p h all ]

  all_known : (ps qs : List Part) → list_all (is_known ps) qs ≡ true → AllByRecursion P ps → ((q : Part) → is_fixed q ≡ true → P q) → AllByRecursion P qs
  all_known ps [] are all fixed = tt
  all_known ps (q ∷ qs) are all fixed =
      let both = and_parts _ _ are in (known ps q both.0 all fixed, all_known ps qs both.1 all fixed)

kinds_apart : (m n : ℕ) → m ≡ n → kinds_differ m n ≡ true → ⊥
kinds_apart m n same apart = not_not m (subst (λ (k : ℕ). kinds_differ m k ≡ true) (sym same) apart)
  where
    not_not : (m : ℕ) → not (m == m) ≡ true → ⊥
    not_not m h = let e : (m == m) ≡ true = eq-eqb m m refl in cc

slots_differ : (c d : Choice) (x y : Slot) → differ x y ≡ true → slot_type c x ≡ slot_type d y → ⊥
slots_differ c d (slot.Of x) (slot.Of y) apart same = kinds_apart _ _ (one_kind (part_type c) (part_type d) x y same) apart
slots_differ c d (slot.Of x) (slot.OptionOf y) apart same =
    kinds_apart _ _ (one_kind (part_type c) (λ (t : Ty). t) x (level.Option (level_type (part_type d) y)) same) apart
slots_differ c d (slot.OptionOf x) (slot.Of y) apart same =
    kinds_apart _ _ (one_kind (λ (t : Ty). t) (part_type d) (level.Option (level_type (part_type c) x)) y same) apart
slots_differ c d _ _ apart same = cc

operands_apart : (c d : Choice) (xs ys : List Slot) (below other : List Ty) → are_apart xs ys ≡ true →
    map (slot_type c) xs ++ below ≡ map (slot_type d) ys ++ other → ⊥
operands_apart c d [] ys below other apart same = cc
operands_apart c d (x ∷ xs) [] below other apart same = cc
operands_apart c d (x ∷ xs) (y ∷ ys) below other apart same =
    let here : slot_type c x ≡ slot_type d y = cc in
    let behind : map (slot_type c) xs ++ below ≡ map (slot_type d) ys ++ other = cc in
    elim (or_cases _ _ apart) [ inl h ↦ slots_differ c d x y h here | inr h ↦ operands_apart c d xs ys below other h behind ]

-- ---- one line

-- the line of a stack
abbrev Takes : Choice → List Ty → Line → List Ty → Type 0
Takes c below l stack = stack ≡ slot_types c l.0 ++ below

module _ (c d : Choice) (below other stack : List Ty) where
  not_apart : (l m : Line) → Takes c below l stack → Takes d other m stack → lie_apart l m ≡ true → ⊥
  not_apart l m here there apart = operands_apart c d (slot_list l.0) (slot_list m.0) below other apart (sym here ∙ there)

  none_apart : (l : Line) (ms : List Line) (m : Line) → IsOneOf m ms → list_all (lie_apart l) ms ≡ true → Takes c below l stack → Takes d other m stack → ⊥
  none_apart l [] m is apart here there = is
  none_apart l (n ∷ ms) m (inl same) apart here there =
      not_apart l n here (subst (λ (k : Line). Takes d other k stack) same there) (and_parts _ _ apart).0
  none_apart l (n ∷ ms) m (inr is) apart here there = none_apart l ms m is (and_parts _ _ apart).1 here there

one_line : (ls : List Line) (c d : Choice) (below other stack : List Ty) (l m : Line) → all_apart ls ≡ true → IsOneOf l ls → IsOneOf m ls →
    Takes c below l stack → Takes d other m stack → l ≡ m
one_line [] c d below other stack l m apart is_l is_m here there = absurd is_l
one_line (n ∷ ls) c d below other stack l m apart (inl l_is) (inl m_is) here there = l_is ∙ sym m_is
one_line (n ∷ ls) c d below other stack l m apart (inl l_is) (inr m_is) here there =
    absurd (none_apart c d below other stack n ls m m_is (and_parts _ _ apart).0 (subst (λ (k : Line). Takes c below k stack) l_is here) there)
one_line (n ∷ ls) c d below other stack l m apart (inr l_is) (inl m_is) here there =
    absurd (none_apart d c other below stack n ls l l_is (and_parts _ _ apart).0 (subst (λ (k : Line). Takes d other k stack) m_is there) here)
one_line (n ∷ ls) c d below other stack l m apart (inr l_is) (inr m_is) here there =
    one_line ls c d below other stack l m (and_parts _ _ apart).1 l_is m_is here there

closed_line : (ls : List Line) (l : Line) → IsOneOf l ls → list_all is_closed ls ≡ true → is_closed l ≡ true
closed_line [] l is closed = absurd is
closed_line (n ∷ ls) l (inl same) closed = ap is_closed same ∙ (and_parts _ _ closed).0
closed_line (n ∷ ls) l (inr is) closed = closed_line ls l is (and_parts _ _ closed).1

module _ (s : Script) {A : Type 0} (x : Instr-F A) where
  written_once : (c d : Choice) → given_types s x ≡ Some c.written → given_types s x ≡ Some d.written → c.written ≡ d.written
  written_once c d one two = cc

  -- by two lines of an instruction the same stack is left
  pub one_result : (c d : Choice) (below other : List Ty) (l m : Line) → IsOneOf l (lines x) → IsOneOf m (lines x) →
      given_types s x ≡ Some c.written → given_types s x ≡ Some d.written →
      slot_types c l.0 ++ below ≡ slot_types d m.0 ++ other → slot_types c l.1 ++ below ≡ slot_types d m.1 ++ other
  one_result c d below other l m l_is m_is c_written d_written same =
      let equal : l ≡ m = one_line (lines x) c d below other (slot_types c l.0 ++ below) l m (lines_apart x) l_is m_is refl same in
      let here : slot_types c m.0 ++ below ≡ slot_types d m.0 ++ other = ap (λ (n : Line). slot_types c n.0 ++ below) (sym equal) ∙ same in
      let agree = operands_parts c d (slot_list m.0) below other here in
      let all = all_known (Agree c d) (parts_of_all (slot_list m.0)) (parts_of_all (slot_list m.1))
      (closed_line (lines x) m m_is (lines_closed x)) agree.0 (fixed_agree c d (written_once c d c_written d_written)) in
      ap (λ (n : Line). slot_types c n.1 ++ below) equal
      ∙ (λ i. results_of_parts c d (slot_list m.1) all i ++ agree.1 i)
