-- A storage with its entries in their maps is parted into the storage and these entries.
use Rattle.std.proofs.Common.{◌≡◌, ℕ, ◌+◌, ◌<◌, true, List, length, refl, sym, ap, ◌∙◌, arith}
use Rattle.std.specs.Prelude.{◌==◌, IsTrue, nat_lt}
use Rattle.std.specs.List.{AllByRecursion}
use Rattle.std.proofs.lemmas.Bool.{and_parts, eqb-true}
use Rattle.value_core.specs.declared.ty.Ty.{Ty}
use Rattle.value_core.specs.declared.ty.Ty.TheVariants as kind
use Rattle.value_core.specs.declared.val.Val.{Val}
use Rattle.value_core.specs.declared.val.Val.TheVariants as value
use Rattle.value_core.specs.BigMaps.{big_maps_of, placing}
use Rattle.value_core.specs.Sound.{is_plain}
use Rattle.value_core.specs.Typed.{has_type}
use Rattle.value_core.proofs.BigMapLemmas.{no_maps}
use Rattle.value_core.proofs.Canonical.{of_big_map, of_pair}
use Rattle.value_laws.proofs.PlainnessEquations.{plain-big_map, plain-pair}
use Rattle.data_nodes.specs.Parts.{parted, parting}
use Rattle.data_nodes.specs.Storage.{Entry, IsEntryOf, IsKept, Kept, entries_ascend, entries_at, with_entries}
use Rattle.data_nodes.proofs.EntryLists.{all_entries, between, between-all, between-none, between-one, between-split}
use Rattle.data_nodes.proofs.JoinedStorage.{joined-map, joined-other, joined-pair}
use Rattle.data_nodes.proofs.KeptStorages.{placed-map, placed-pair, some_within}
use Rattle.data_nodes.proofs.Partings.{count-pair, joined, parted-map, parted-other, parted-pair}
use Rattle.data_nodes.proofs.StorageTypes.{IsOther, along_pairs, maps-map}

module _ (all : List Entry) (ascending : entries_ascend all ≡ true) where
  -- what a storage is parted into where its first big map has a place
  abbrev Parts : Ty → Type 0
  Parts t = (first : ℕ) (s : Val) → IsTrue (has_type s t) → (placing t).1 first s ≡ true → is_plain s ≡ true →
      (parting t).1 first (with_entries all s) ≡ (s, between first (first + length (big_maps_of t)) all)

  parts_pair : (s u : Ty) → Parts s → Parts u → Parts (kind.Pair s u)
  parts_pair s u left right first v typed placed plain =
      let p = of_pair v s u typed in
      let places = and_parts _ _ (sym (placed-pair s u first p.0 p.1) ∙ sym (ap (λ (w : Val). (placing (kind.Pair s u)).1 first w) p.2) ∙ placed) in
      let both = and_parts (is_plain p.0) (is_plain p.1) (sym (plain-pair p.0 p.1) ∙ sym (ap is_plain p.2) ∙ plain) in
      let middle : ℕ = first + length (big_maps_of s) in
      let last : middle + length (big_maps_of u) ≡ first + length (big_maps_of (kind.Pair s u)) = omega (arith, count-pair (kind.Pair s u) s u refl) in
      let one = left first p.0 p.3 places.0 both.0 in
      let other = right middle p.1 p.4 places.1 both.1 in
      ap (λ (w : Val). (parting (kind.Pair s u)).1 first (with_entries all w)) p.2
      ∙ ap ((parting (kind.Pair s u)).1 first) (joined-pair all p.0 p.1)
      ∙ parted-pair s u first (with_entries all p.0) (with_entries all p.1)
      ∙ (λ i. joined (one i) (other i))
      ∙ (λ i. (sym p.2 i, between-split first middle (middle + length (big_maps_of u)) (omega arith) (omega arith) all ascending i))
      ∙ ap (λ (high : ℕ). (v, between first high all)) last

  parts_map : (k w : Ty) → Parts (kind.BigMap k w)
  parts_map k w first v typed placed plain =
      let p = of_big_map v k w typed in
      let place : p.0 ≡ first = eqb-true p.0 first (sym (placed-map k w first p.0 p.1) ∙ sym (ap (λ (m : Val). (placing (kind.BigMap k w)).1 first m) p.2) ∙ placed) in
      let version : p.1 ≡ 0 = eqb-true p.1 0 (and_parts (nat_lt p.0 16) (p.1 == 0) (sym (plain-big_map p.0 p.1) ∙ sym (ap is_plain p.2) ∙ plain)).1 in
      let is : v ≡ value.BigMap first 0 = p.2 ∙ (λ i. value.BigMap (place i) (version i)) in
      let last : first + 1 ≡ first + length (big_maps_of (kind.BigMap k w)) = omega (arith, ap length (maps-map k w)) in
      ap (λ (m : Val). (parting (kind.BigMap k w)).1 first (with_entries all m)) is
      ∙ ap ((parting (kind.BigMap k w)).1 first) (joined-map all first 0)
      ∙ parted-map k w first (entries_at first all)
      ∙ (λ i. (sym is i, between-one first all i))
      ∙ ap (λ (high : ℕ). (v, between first high all)) last

  parts_other : (t : Ty) → IsOther t → Parts t
  parts_other t o first v typed placed plain =
      let last : first ≡ first + length (big_maps_of t) = omega (arith, ap length (no_maps t o.no_pair o.no_map)) in
      ap ((parting t).1 first) (joined-other all t v o typed) ∙ parted-other t o first v
      ∙ ap (λ (l : List Entry). (v, l)) (sym (between-none first all)) ∙ ap (λ (high : ℕ). (v, between first high all)) last

  parts : (t : Ty) → Parts t
  parts = along_pairs Parts parts_pair parts_map parts_other

-- a storage that is kept as it should be is what its data is parted into
pub parted_again : (t : Ty) (kept : Kept) → IsKept t kept → parted t (with_entries kept.1 kept.0) ≡ kept
parted_again t kept k =
    let low : AllByRecursion (λ e. e.0 < length (big_maps_of t)) kept.1 =
    all_entries (IsEntryOf (big_maps_of t)) (λ e. e.0 < length (big_maps_of t)) (λ e h. some_within (λ types. IsTrue (has_type e.1 types.0) × IsTrue (has_type e.2 types.1)) (big_maps_of t) e.0 h) kept.1 k.entries in
    let same : 0 + length (big_maps_of t) ≡ length (big_maps_of t) = omega arith in
    parts kept.1 k.ascending t 0 kept.0 k.typed k.placed k.plain
    ∙ ap (λ (high : ℕ). (kept.0, between 0 high kept.1)) same
    ∙ ap (λ (l : List Entry). (kept.0, l)) (between-all (length (big_maps_of t)) kept.1 low)
