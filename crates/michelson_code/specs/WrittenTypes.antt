-- Types as they are written: keys, big maps, and how large a type may be.
use Rattle.std.specs.Prelude.{Bool, true, false, ◌&&◌, nat_le, length}
use Rattle.value_core.specs.declared.ty.Ty.{Ty}
use Rattle.value_core.specs.declared.ty.Ty.TheOpen as ty
use Rattle.value_core.specs.declared.ty.Ty.TheOpen.{Ty-F}
use Rattle.value_core.specs.declared.ty.Ty.TheViews.{roll-Ty}
use Rattle.value_core.specs.declared.ty.Ty.TheFolds.{fold-Ty, map-Ty}
use Rattle.value_core.specs.BigMaps.{big_maps_of}
use Rattle.value_core.specs.Depth.{depth_of_type}
use Rattle.value_core.specs.Kinds.{is_comparable, is_passable}
use Rattle.value_core.specs.Nodes.{nodes_of}

-- ---- a test of each level of a type

-- a type beside whether it passes
abbrev pub Judged : Type 0
Judged = Ty × Bool

-- each part passes
abbrev pub parts_pass : Ty-F Judged → Bool
parts_pass (ty.Option t) = t.1
parts_pass (ty.Or s t) = s.1 && t.1
parts_pass (ty.Pair s t) = s.1 && t.1
parts_pass (ty.List t) = t.1
parts_pass (ty.Set t) = t.1
parts_pass (ty.Map k v) = k.1 && v.1
parts_pass (ty.BigMap k v) = k.1 && v.1
parts_pass (ty.Contract t) = t.1
parts_pass _ = true

-- one level of a type without the judgments
abbrev pub bare : Ty-F Judged → Ty-F Ty
bare = map-Ty Judged Ty (λ p. p.0)

-- the level passes, and so does each part
abbrev pub judged_level : (Ty-F Ty → Bool) → Ty-F Judged → Judged
judged_level test x = (roll-Ty (bare x), test (bare x) && parts_pass x)

-- each level of the type passes
abbrev pub passes_throughout : (Ty-F Ty → Bool) → Ty → Bool
passes_throughout test t = (fold-Ty Judged (judged_level test) t).1

-- ---- keys and big maps

-- keys and elements are comparable
abbrev pub keys_here : Ty-F Ty → Bool
keys_here (ty.Set t) = is_comparable t
keys_here (ty.Map k v) = is_comparable k
keys_here (ty.BigMap k v) = is_comparable k
keys_here _ = true

-- throughout the type
abbrev pub has_comparable_keys : Ty → Bool
has_comparable_keys = passes_throughout keys_here

-- the values of a big map are passable
abbrev pub values_here : Ty-F Ty → Bool
values_here (ty.BigMap k v) = is_passable v
values_here _ = true

-- throughout the type
abbrev pub has_passable_values : Ty → Bool
has_passable_values = passes_throughout values_here

-- a type as it may be written anywhere
abbrev pub is_well_made : Ty → Bool
is_well_made t = has_comparable_keys t && has_passable_values t

-- ---- limits

-- at most 16,384 nodes, and at most 128 deep
abbrev pub is_within_limits : Ty → Bool
is_within_limits t = nat_le (nodes_of t) 16384 && nat_le (depth_of_type t) 128

-- ---- parameter and storage

-- a level that is no contract and no operation
abbrev pub is_kept_here : Ty-F Ty → Bool
is_kept_here (ty.Contract t) = false
is_kept_here ty.Operation = false
is_kept_here _ = true

-- a level that is no big map
abbrev pub is_no_big_map_type : Ty-F Ty → Bool
is_no_big_map_type (ty.BigMap k v) = false
is_no_big_map_type _ = true

-- no contract and no operation stands in the type
abbrev pub is_kept : Ty → Bool
is_kept = passes_throughout is_kept_here

-- no big map stands in the type
abbrev pub is_free_of_big_maps : Ty → Bool
is_free_of_big_maps = passes_throughout is_no_big_map_type

-- a type, whether its big maps stand on the path of pairs from the root alone, and whether none stands in it
abbrev pub Placed : Type 0
Placed = Bool × Bool

-- one level of a type
abbrev pub placed_level : Ty-F Placed → Placed
placed_level (ty.Option t) = (t.1, t.1)
placed_level (ty.Or s t) = (s.1 && t.1, s.1 && t.1)
placed_level (ty.Pair s t) = (s.0 && t.0, s.1 && t.1)
placed_level (ty.List t) = (t.1, t.1)
placed_level (ty.Set t) = (t.1, t.1)
placed_level (ty.Map k v) = (k.1 && v.1, k.1 && v.1)
placed_level (ty.BigMap k v) = (k.1 && v.1, false)
placed_level (ty.Contract t) = (t.1, t.1)
placed_level _ = (true, true)

-- each big map of the type stands on the path of pairs from the root
abbrev pub has_placed_big_maps : Ty → Bool
has_placed_big_maps t = (fold-Ty Placed placed_level t).0

-- the big maps of a storage: on the path of pairs from the root, with passable values, at most 16
abbrev pub has_storage_big_maps : Ty → Bool
has_storage_big_maps t = has_placed_big_maps t && has_passable_values t && nat_le (length (big_maps_of t)) 16
