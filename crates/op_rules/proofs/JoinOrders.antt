-- An order that respects joins which order all conflicts keeps those that conflict in order.
use Rattle.std.proofs.Common.{◌≡◌, ℕ, ◌+◌, ◌<◌, List, [], ◌∷◌, ◌++◌, length, map, refl, sym, ap, subst, ◌∙◌, append_assoc, arith}
use Rattle.std.proofs.lemmas.List.{map-append}
use Rattle.std.specs.Prelude.{slice_index_or}
use Rattle.std.specs.List.{AllByRecursion}
use Rattle.cell_names.specs.declared.cell.Cell.{Cell}
use Rattle.cell_names.specs.declared.mode.Mode.{Mode}
use Rattle.join_schedule.specs.Cover.{Cover, footprint_of}
use Rattle.join_schedule.specs.Joins.{IsBefore}
use Rattle.op_rules.specs.Alike.{NeverConflict}
use Rattle.op_rules.specs.Orders.{Entry, IsOrderOf, KeepsConflicts, Respects, entries_in, numbered}

-- ---- what is true of all entries

module _ {A : Type 0} (P : A → Type 0) where
  all_append : (xs ys : List A) → AllByRecursion P xs → AllByRecursion P ys → AllByRecursion P (xs ++ ys)
  all_append [] ys p q = q
  all_append (x ∷ xs) ys p q = (p.0, all_append xs ys p.1 q)

  all_front : (xs ys : List A) → AllByRecursion P (xs ++ ys) → AllByRecursion P xs
  all_front [] ys p = tt
  all_front (x ∷ xs) ys p = (p.0, all_front xs ys p.1)

  all_behind : (xs ys : List A) → AllByRecursion P (xs ++ ys) → AllByRecursion P ys
  all_behind [] ys p = p
  all_behind (x ∷ xs) ys p = all_behind xs ys p.1

module _ {A : Type 0} (P Q : A → Type 0) (h : (x : A) → P x → Q x) where
  all_by : (xs : List A) → AllByRecursion P xs → AllByRecursion Q xs
  all_by [] p = tt
  all_by (x ∷ xs) p = (h x p.0, all_by xs p.1)

-- what is true of an order is true of what it orders
all_ordered : (P : ℕ × Entry → Type 0) (entries others : List (ℕ × Entry)) → IsOrderOf entries others → AllByRecursion P others → AllByRecursion P entries
all_ordered P entries [] o all = subst (AllByRecursion P) (sym o) tt
all_ordered P entries (e ∷ others) o all =
    let rest = all_ordered P (o.0 ++ o.1) others o.3 all.1 in
    subst (AllByRecursion P) (sym o.2) (all_append P o.0 (e ∷ o.1) (all_front P o.0 o.1 rest) (all.0, all_behind P o.0 o.1 rest))

-- ---- numbers that ascend

-- each number is below those behind it
abbrev Ascends : List (ℕ × Entry) → Type 0
Ascends [] = Unit {0}
Ascends (e ∷ entries) = AllByRecursion (λ d. e.0 < d.0) entries × Ascends entries

-- all before one have lower numbers
before_it : (before behind : List (ℕ × Entry)) (e : ℕ × Entry) → Ascends (before ++ e ∷ behind) → AllByRecursion (λ d. d.0 < e.0) before
before_it [] behind e a = tt
before_it (d ∷ before) behind e a = ((all_behind (λ x. d.0 < x.0) before (e ∷ behind) a.0).0, before_it before behind e a.1)

-- without one they ascend
without : (before behind : List (ℕ × Entry)) (e : ℕ × Entry) → Ascends (before ++ e ∷ behind) → Ascends (before ++ behind)
without [] behind e a = a.1
without (d ∷ before) behind e a =
    (all_append (λ x. d.0 < x.0) before behind (all_front (λ x. d.0 < x.0) before (e ∷ behind) a.0) (all_behind (λ x. d.0 < x.0) before (e ∷ behind) a.0).1, without before behind e a.1)

all_above : (k n : ℕ) (entries : List Entry) → k < n → AllByRecursion (λ d. k < d.0) (numbered n entries)
all_above k n [] h = tt
all_above k n (e ∷ entries) h = (h, all_above k (n + 1) entries (omega arith))

numbers_ascend : (n : ℕ) (entries : List Entry) → Ascends (numbered n entries)
numbers_ascend n [] = tt
numbers_ascend n (e ∷ entries) = (all_above n (n + 1) entries (omega arith), numbers_ascend (n + 1) entries)

-- ---- footprints by number

module _ (footprints : List (List (Cell × Mode))) where
  -- the entry's footprint stands at its number
  record Stands (e : ℕ × Entry) : Type 0 where
    within : e.0 < length footprints
    is : footprint_of footprints e.0 ≡ e.1.footprint

index-behind : (front : List (List (Cell × Mode))) (f : List (Cell × Mode)) (behind : List (List (Cell × Mode))) → slice_index_or (front ++ f ∷ behind) (length front) [] ≡ f
index-behind [] f behind = refl
index-behind (x ∷ front) f behind = index-behind front f behind

length-push : (front : List (List (Cell × Mode))) (f : List (Cell × Mode)) → length (front ++ f ∷ []) ≡ length front + 1
length-push [] f = omega arith
length-push (x ∷ front) f = let h = length-push front f in omega arith

length-within : (front : List (List (Cell × Mode))) (f : List (Cell × Mode)) (behind : List (List (Cell × Mode))) → length front < length (front ++ f ∷ behind)
length-within [] f behind = omega arith
length-within (x ∷ front) f behind = let h = length-within front f behind in omega arith

all_stand_at : (front : List (List (Cell × Mode))) (entries : List Entry) (n : ℕ) → length front ≡ n →
    AllByRecursion (Stands (front ++ map (λ e. e.footprint) entries)) (numbered n entries)
all_stand_at front [] n at = tt
all_stand_at front (e ∷ entries) n at =
    let behind = map (λ (x : Entry). x.footprint) entries in (
      record {
        within = subst (λ k. k < length (front ++ e.footprint ∷ behind)) at (length-within front e.footprint behind);
        is = ap (λ k. slice_index_or (front ++ e.footprint ∷ behind) k []) (sym at) ∙ index-behind front e.footprint behind;
      },
      subst (λ fs. AllByRecursion (Stands fs) (numbered (n + 1) entries)) (append_assoc front (e.footprint ∷ []) behind)
          (all_stand_at (front ++ e.footprint ∷ []) entries (n + 1) (length-push front e.footprint ∙ ap (λ k. k + 1) at)),
    )

-- ---- orders

module _ (joins : List (List ℕ)) (footprints : List (List (Cell × Mode))) (cover : Cover joins footprints) where
  -- of two that aren't ordered none conflicts with the other
  never : (d e : ℕ × Entry) → Stands footprints d → Stands footprints e → d.0 < e.0 → ¬ IsBefore joins d.0 e.0 → NeverConflict d.1.footprint e.1.footprint
  never d e p q less apart =
      subst (λ f. NeverConflict f e.1.footprint) p.is
      (subst (λ f. NeverConflict (footprint_of footprints d.0) f) q.is (λ c both. apart (cover d.0 e.0 less q.within c both)))

  all_never : (e : ℕ × Entry) → Stands footprints e → (before : List (ℕ × Entry)) → AllByRecursion (Stands footprints) before → AllByRecursion (λ d. d.0 < e.0) before →
      AllByRecursion (λ d. ¬ IsBefore joins d.0 e.0) before → AllByRecursion (λ (d : Entry). NeverConflict d.footprint e.1.footprint) (entries_in before)
  all_never e q [] p less apart = tt
  all_never e q (d ∷ before) p less apart = (never d e p.0 q less.0 apart.0, all_never e q before p.1 less.1 apart.1)

  keeps : (entries others : List (ℕ × Entry)) → AllByRecursion (Stands footprints) entries → Ascends entries → IsOrderOf entries others → Respects joins others →
      KeepsConflicts (entries_in entries) (entries_in others)
  keeps entries [] all a o r = ap entries_in o
  keeps entries (e ∷ others) all a o r =
      let before = o.0 in
      let behind = o.1 in
      let here : AllByRecursion (Stands footprints) (before ++ e ∷ behind) = subst (AllByRecursion (Stands footprints)) o.2 all in
      let ascends : Ascends (before ++ e ∷ behind) = subst Ascends o.2 a in
      let rest = all_behind (Stands footprints) before (e ∷ behind) here in
      let front = all_front (Stands footprints) before (e ∷ behind) here in
      let unordered = all_ordered (λ d. ¬ IsBefore joins d.0 e.0) (before ++ behind) others o.3 r.0 in (
        entries_in before,
        entries_in behind,
        ap entries_in o.2 ∙ map-append (λ (x : ℕ × Entry). x.1) before (e ∷ behind),
        all_never e rest.0 before front (before_it before behind e ascends) (all_front (λ d. ¬ IsBefore joins d.0 e.0) before behind unordered),
        subst (λ es. KeepsConflicts es (entries_in others)) (map-append (λ (x : ℕ × Entry). x.1) before behind)
            (keeps (before ++ behind) others (all_append (Stands footprints) before behind front rest.1) (without before behind e ascends) o.3 r.1),
      )

entries_of-numbered : (n : ℕ) (entries : List Entry) → entries_in (numbered n entries) ≡ entries
entries_of-numbered n [] = refl
entries_of-numbered n (e ∷ entries) = ap (λ es. e ∷ es) (entries_of-numbered (n + 1) entries)

pub keeps_conflicts : (joins : List (List ℕ)) (entries : List Entry) (others : List (ℕ × Entry)) → Cover joins (map (λ e. e.footprint) entries) →
    IsOrderOf (numbered 0 entries) others → Respects joins others → KeepsConflicts entries (entries_in others)
keeps_conflicts joins entries others cover o r =
    subst (λ es. KeepsConflicts es (entries_in others)) (entries_of-numbered 0 entries)
    (keeps joins (map (λ e. e.footprint) entries) cover (numbered 0 entries) others (all_stand_at [] entries 0 refl) (numbers_ascend 0 entries) o r)
