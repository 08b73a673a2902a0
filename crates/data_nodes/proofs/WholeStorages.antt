-- Data without big maps is a storage without entries.
use Rattle.std.proofs.Common.{◌≡◌, ℕ, true, false, [], refl, sym, ap, subst, ◌∙◌}
use Rattle.std.specs.Prelude.{◌&&◌, IsTrue}
use Rattle.std.proofs.lemmas.Bool.{and_from, and_parts}
use Rattle.value_core.specs.declared.ty.Ty.{Ty}
use Rattle.value_core.specs.declared.ty.Ty.TheVariants as kind
use Rattle.value_core.specs.declared.val.Val.{Val}
use Rattle.value_core.specs.declared.val.Val.TheVariants as value
use Rattle.value_core.specs.declared.val.Val.TheOpen as one
use Rattle.value_core.specs.BigMaps.{Placing, has_no_big_map, is_no_big_map, placing}
use Rattle.value_core.specs.Sound.{is_plain}
use Rattle.value_core.specs.Typed.{has_type}
use Rattle.value_core.proofs.Canonical.{of_big_map, of_pair}
use Rattle.value_core.proofs.Everywhere.{everywhere-roll}
use Rattle.value_core.proofs.TypeEquations.{has_type-pair}
use Rattle.micheline_text.specs.declared.node.Node.{Node}
use Rattle.data_nodes.specs.Data.{IsData}
use Rattle.data_nodes.specs.Storage.{IsStorage, with_entries, with_maps}
use Rattle.data_nodes.proofs.JoinedStorage.{joined-other, joined-pair}
use Rattle.data_nodes.proofs.KeptStorages.{placed-pair, placing-other}
use Rattle.data_nodes.proofs.StorageTypes.{along_pairs, with_maps-other, with_maps-pair}

no_big_map-pair : (a b : Val) → has_no_big_map (value.Pair a b) ≡ (has_no_big_map a && (has_no_big_map b && true))
no_big_map-pair a b = ap has_no_big_map (sym (value.rolls-Pair a b)) ∙ everywhere-roll is_no_big_map (one.Pair a b)

no_big_map-big_map : (place version : ℕ) → has_no_big_map (value.BigMap place version) ≡ false
no_big_map-big_map place version = ap has_no_big_map (sym (value.rolls-BigMap place version)) ∙ everywhere-roll is_no_big_map (one.BigMap place version)

-- the value stands for itself
record IsWhole (t : Ty) (v : Val) : Type 0 where
  pub same : with_entries [] v ≡ v
  pub typed : IsTrue (has_type v (with_maps t))
  pub placed : (first : ℕ) → (placing t).1 first v ≡ true

abbrev Stands : Ty → Type 0
Stands t = (v : Val) → IsTrue (has_type v t) → has_no_big_map v ≡ true → IsWhole t v

pair_whole : (s u : Ty) (a b : Val) → IsWhole s a → IsWhole u b → IsWhole (kind.Pair s u) (value.Pair a b)
pair_whole s u a b left right = record {
  same = joined-pair [] a b ∙ (λ i. value.Pair (left.same i) (right.same i));
  typed = ap (has_type (value.Pair a b)) (with_maps-pair s u) ∙ has_type-pair a b (with_maps s) (with_maps u) ∙ and_from _ _ left.typed right.typed;
  placed = λ first. placed-pair s u first a b ∙ and_from _ _ (left.placed first) (right.placed _);
}

whole : (t : Ty) → Stands t
whole = along_pairs Stands
    (λ s u left right v typed none.
    let p = of_pair v s u typed in
    let parts = and_parts (has_no_big_map p.0) (has_no_big_map p.1 && true) (sym (no_big_map-pair p.0 p.1) ∙ sym (ap has_no_big_map p.2) ∙ none) in
    let second = and_parts (has_no_big_map p.1) true parts.1 in
    subst (IsWhole (kind.Pair s u)) (sym p.2) (pair_whole s u p.0 p.1 (left p.0 p.3 parts.0) (right p.1 p.4 second.0)))
    (λ k w v typed none.
    let p = of_big_map v k w typed in
    let some : has_no_big_map v ≡ false = ap has_no_big_map p.2 ∙ no_big_map-big_map p.0 p.1 in
    absurd cc)
    (λ t o v typed none. record {
      same = joined-other [] t v o typed;
      typed = ap (has_type v) (with_maps-other t o) ∙ typed;
      placed = λ first. ap (λ (p : Placing). p.1 first v) (placing-other t o);
    })

pub whole_storage : (t : Ty) (n : Node) (v : Val) → is_plain v ≡ true → has_no_big_map v ≡ true → IsData t n v → IsStorage t n (v, [])
whole_storage t n v plain none data_of =
    let w = whole t v data_of.0 none in
    record {
      is = record { typed = data_of.0; placed = w.placed 0; plain = plain; entries = tt; ascending = refl; countable = λ place. refl };
      said = subst (IsData (with_maps t) n) (sym w.same) (w.typed, data_of.1);
    }
