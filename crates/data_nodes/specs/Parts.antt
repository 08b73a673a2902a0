-- What becomes of a storage that was read: big maps are numbered from the left, and their entries are taken out.
use Rattle.std.specs.Prelude.{◌≡◌, ℕ, ◌+◌, List, [], ◌++◌, length, map}
use Rattle.value_core.specs.declared.ty.Ty.{Ty}
use Rattle.value_core.specs.declared.ty.Ty.TheOpen as ty
use Rattle.value_core.specs.declared.ty.Ty.TheOpen.{Ty-F}
use Rattle.value_core.specs.declared.ty.Ty.TheFolds.{fold-Ty}
use Rattle.value_core.specs.declared.val.Val.{Val}
use Rattle.value_core.specs.declared.val.Val.TheVariants as value
use Rattle.value_core.specs.declared.val.Val.TheOpen as one
use Rattle.value_core.specs.declared.val.Val.TheViews.{out-Val}
use Rattle.value_core.specs.BigMaps.{big_maps_of}
use Rattle.value_core.specs.Layer.{Layer}
use Rattle.data_nodes.specs.Storage.{Entry, Kept}

-- the entries of the big map with this place
abbrev pub tagged : ℕ → List (Val × Val) → List Entry
tagged place = map (λ e. (place, e.0, e.1))

-- how many big maps a type has, and what becomes of a value of it where the first has this place
abbrev pub Parting : Type 0
Parting = ℕ × (ℕ → Val → Kept)

-- of a pair: its first part, and then its second
abbrev pub part_pair : Parting → Parting → ℕ → Val → Layer Val → Kept
part_pair s t first v (one.Pair a b) =
    let x : Kept = s.1 first a in let y : Kept = t.1 (first + s.0) b in (value.Pair x.0 y.0, x.1 ++ y.1)
part_pair s t first v _ = (v, [])

-- of the map that stands for a big map: its place stays, and its entries are taken out
abbrev pub part_map : ℕ → Val → Layer Val → Kept
part_map place v (one.Map entries) = (value.BigMap place 0, tagged place entries)
part_map place v _ = (v, [])

-- one level of a type
abbrev pub parting_level : Ty-F Parting → Parting
parting_level (ty.Pair s t) = (s.0 + t.0, λ first v. part_pair s t first v (out-Val v))
parting_level (ty.BigMap k v) = (1, λ place m. part_map place m (out-Val m))
parting_level _ = (0, λ first v. (v, []))

-- of a type
abbrev pub parting : Ty → Parting
parting = fold-Ty Parting parting_level

-- the value with the places of its big maps, and their entries
abbrev pub parted : Ty → Val → Kept
parted t v = (parting t).1 0 v

-- the entries behind others
abbrev pub onto : List Entry → Kept → Kept
onto front p = (p.0, front ++ p.1)

-- what becomes of a value whose first big map has a place, behind the entries so far, and the place after its big maps
abbrev pub BecomesKept : Ty → Val → ℕ → List Entry → Val → List Entry → ℕ → Type 0
BecomesKept t v first front kept all next = ((kept, all) ≡ onto front ((parting t).1 first v)) × (next ≡ first + length (big_maps_of t))
