-- The data of a storage has the type that is written for it.
use Rattle.std.proofs.Common.{◌≡◌, ℕ, zero, suc, ◌+◌, ◌<◌, true, false, Bool, List, [], ◌∷◌, ◌++◌, Option, Some, Result, Ok, Err, length, refl, sym, ap, subst, ◌∙◌, arith}
use Rattle.std.specs.Prelude.{◌&&◌, ◌==◌, IfOk, IsSomeAnd, IsTrue, slice_get}
use Rattle.std.specs.List.{AllByRecursion, list_all}
use Rattle.std.proofs.lemmas.Bool.{and_from, and_parts, eqb-true}
use Rattle.value_core.specs.declared.ty.Ty.{Ty}
use Rattle.value_core.specs.declared.ty.Ty.TheVariants as kind
use Rattle.value_core.specs.declared.val.Val.{Val}
use Rattle.value_core.specs.declared.val.Val.TheVariants as value
use Rattle.value_core.specs.BigMaps.{big_maps_of, placing}
use Rattle.value_core.specs.Sound.{is_countable}
use Rattle.value_core.specs.Typed.{has_type}
use Rattle.value_core.proofs.Canonical.{of_big_map, of_pair}
use Rattle.value_core.proofs.TypeEquations.{has_type-map, has_type-pair}
use Rattle.data_nodes.specs.Storage.{Entry, IsEntryOf, IsKept, Kept, entries_ascend, entries_at, with_entries, with_maps}
use Rattle.data_nodes.proofs.EntryLists.{at-elsewhere, at-here, keys_ascend}
use Rattle.data_nodes.proofs.JoinedStorage.{joined-map, joined-other, joined-pair}
use Rattle.data_nodes.proofs.KeptStorages.{placed-map, placed-pair}
use Rattle.data_nodes.proofs.Partings.{count-pair}
use Rattle.data_nodes.proofs.StorageTypes.{IsOther, along_pairs, maps-map, maps-pair, with_maps-map, with_maps-other, with_maps-pair}

get_first : {A : Type 0} (xs ys : List A) (i : ℕ) → i < length xs → slice_get (xs ++ ys) i ≡ slice_get xs i
get_first [] ys i lt = absurd (omega arith)
get_first (x ∷ xs) ys zero lt = refl
get_first (x ∷ xs) ys (suc i) lt = get_first xs ys i (omega (arith, lt))

get_second : {A : Type 0} (xs ys : List A) (i k : ℕ) → k ≡ length xs + i → slice_get (xs ++ ys) k ≡ slice_get ys i
get_second [] ys i k e = let same : k ≡ i = omega (arith, e) in ap (slice_get ys) same
get_second (x ∷ xs) ys i zero e = absurd (omega (arith, e))
get_second (x ∷ xs) ys i (suc k) e = get_second xs ys i k (omega (arith, e))

abbrev fit_types : Ty → Ty → Val × Val → Bool
fit_types k w e = has_type e.0 k && has_type e.1 w

module _ (maps : List (Ty × Ty)) (place : ℕ) (k w : Ty) (is : slice_get maps place ≡ Some (k, w)) where
  types_step : (e : Entry) (es : List Entry) (here : Bool) → (e.0 == place) ≡ here → IsEntryOf maps e → list_all (fit_types k w) (entries_at place es) ≡ true →
      list_all (fit_types k w) (entries_at place (e ∷ es)) ≡ true
  types_step e es false h of_map more = ap (list_all (fit_types k w)) (at-elsewhere place e es h) ∙ more
  types_step e es true h of_map more =
      let there : slice_get maps e.0 ≡ Some (k, w) = ap (slice_get maps) (eqb-true e.0 place h) ∙ is in
      let types = subst (λ (o : Option (Ty × Ty)). IsSomeAnd o (λ types. IsTrue (has_type e.1 types.0) × IsTrue (has_type e.2 types.1))) there of_map in
      ap (list_all (fit_types k w)) (at-here place e es h) ∙ and_from _ _ (and_from _ _ types.0 types.1) more

  types_at : (es : List Entry) → AllByRecursion (IsEntryOf maps) es → list_all (fit_types k w) (entries_at place es) ≡ true
  types_at [] h = refl
  types_at (e ∷ es) h = types_step e es (e.0 == place) refl h.0 (types_at es h.1)

module _ (maps : List (Ty × Ty)) (all : List Entry) (ascending : entries_ascend all ≡ true) (of_maps : AllByRecursion (IsEntryOf maps) all) (countable : (place : ℕ) → IsTrue (is_countable (entries_at place all))) where
  -- the type's big maps are those from a place on
  abbrev Sits : ℕ → Ty → Type 0
  Sits first t = (i : ℕ) → i < length (big_maps_of t) → slice_get maps (first + i) ≡ slice_get (big_maps_of t) i

  abbrev IsTyped : Ty → Type 0
  IsTyped t = (first : ℕ) (s : Val) → Sits first t → IsTrue (has_type s t) → (placing t).1 first s ≡ true → IsTrue (has_type (with_entries all s) (with_maps t))

  typed_pair : (s u : Ty) → IsTyped s → IsTyped u → IsTyped (kind.Pair s u)
  typed_pair s u left right first v sits typed placed =
      let p = of_pair v s u typed in
      let places = and_parts ((placing s).1 first p.0) _ (sym (placed-pair s u first p.0 p.1) ∙ sym (ap (λ (w : Val). (placing (kind.Pair s u)).1 first w) p.2) ∙ placed) in
      let count = count-pair (kind.Pair s u) s u refl in
      let one = left first p.0 (λ i lt. sits i (omega (arith, lt, count)) ∙ ap (λ (ms : List (Ty × Ty)). slice_get ms i) (maps-pair s u) ∙ get_first (big_maps_of s) (big_maps_of u) i lt) p.3 places.0 in
      let other = right (first + length (big_maps_of s)) p.1 (λ i lt.
      let same : (first + length (big_maps_of s)) + i ≡ first + (length (big_maps_of s) + i) = omega arith in
      ap (slice_get maps) same ∙ sits (length (big_maps_of s) + i) (omega (arith, lt, count))
      ∙ ap (λ (ms : List (Ty × Ty)). slice_get ms (length (big_maps_of s) + i)) (maps-pair s u) ∙ get_second (big_maps_of s) (big_maps_of u) i (length (big_maps_of s) + i) refl) p.4 places.1 in
      ap (λ (w : Val). has_type (with_entries all w) (with_maps (kind.Pair s u))) p.2
      ∙ (λ i. has_type (joined-pair all p.0 p.1 i) (with_maps-pair s u i))
      ∙ has_type-pair (with_entries all p.0) (with_entries all p.1) (with_maps s) (with_maps u) ∙ and_from _ _ one other

  typed_map : (k w : Ty) → IsTyped (kind.BigMap k w)
  typed_map k w first v sits typed placed =
      let p = of_big_map v k w typed in
      let place : p.0 ≡ first = eqb-true p.0 first (sym (placed-map k w first p.0 p.1) ∙ sym (ap (λ (m : Val). (placing (kind.BigMap k w)).1 first m) p.2) ∙ placed) in
      let here : first ≡ first + 0 = omega arith in
      let one : 0 < length (big_maps_of (kind.BigMap k w)) = omega (arith, ap length (maps-map k w)) in
      let its : slice_get maps first ≡ Some (k, w) = ap (slice_get maps) here ∙ sits 0 one ∙ ap (λ (ms : List (Ty × Ty)). slice_get ms 0) (maps-map k w) in
      ap (λ (m : Val). has_type (with_entries all m) (with_maps (kind.BigMap k w))) p.2
      ∙ (λ i. has_type (joined-map all p.0 p.1 i) (with_maps-map k w i))
      ∙ ap (λ (n : ℕ). has_type (value.Map (entries_at n all)) (kind.Map k w)) place
      ∙ has_type-map (entries_at first all) k w
      ∙ and_from _ _ (and_from _ _ (countable first) (keys_ascend first all ascending)) (types_at maps first k w its all of_maps)

  typed_other : (t : Ty) → IsOther t → IsTyped t
  typed_other t o first v sits typed placed = (λ i. has_type (joined-other all t v o typed i) (with_maps-other t o i)) ∙ typed

  typed_data : (t : Ty) → IsTyped t
  typed_data = along_pairs IsTyped typed_pair typed_map typed_other

-- the data of a storage that is kept as it should be
pub data_typed : (t : Ty) (kept : Kept) → IsKept t kept → IsTrue (has_type (with_entries kept.1 kept.0) (with_maps t))
data_typed t kept k =
    typed_data (big_maps_of t) kept.1 k.ascending k.entries k.countable t 0 kept.0 (λ i lt. let same : 0 + i ≡ i = omega arith in ap (slice_get (big_maps_of t)) same) k.typed k.placed

-- so has an answer that is the data of a storage
pub answer_typed : {E : Type 0} (kept : Kept) (r : Result Val E) → IfOk r (λ v. v ≡ with_entries kept.1 kept.0) → IfOk r (λ v. (t : Ty) → IsKept t kept → IsTrue (has_type v (with_maps t)))
answer_typed kept (Ok v) is = λ t k. ap (λ (w : Val). has_type w (with_maps t)) is ∙ data_typed t kept k
answer_typed kept (Err e) is = tt
