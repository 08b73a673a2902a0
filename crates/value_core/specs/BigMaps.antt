-- Big maps: values without any, those of a type, and values in which they stand at their own places.
use Rattle.std.specs.Prelude.{ℕ, ◌+◌, List, [], ◌∷◌, ◌++◌, Bool, true, false, ◌&&◌, ◌==◌, Option, Some, None, if◌then◌else◌}
use Rattle.value_core.specs.declared.val.Val.{Val}
use Rattle.value_core.specs.declared.val.Val.TheOpen as one
use Rattle.value_core.specs.declared.val.Val.TheViews.{out-Val}
use Rattle.value_core.specs.declared.ty.Ty.{Ty}
use Rattle.value_core.specs.declared.ty.Ty.TheOpen as ty
use Rattle.value_core.specs.declared.ty.Ty.TheOpen.{Ty-F}
use Rattle.value_core.specs.declared.ty.Ty.TheViews.{roll-Ty}
use Rattle.value_core.specs.declared.ty.Ty.TheFolds.{fold-Ty, map-Ty}
use Rattle.value_core.specs.Layer.{Layer}
use Rattle.value_core.specs.Everywhere.{everywhere}

-- one level of a value, which isn't a big map
abbrev pub is_no_big_map : Layer Val → Bool
is_no_big_map (one.BigMap place version) = false
is_no_big_map _ = true

-- no big map stands in the value
abbrev pub has_no_big_map : Val → Bool
has_no_big_map = everywhere is_no_big_map

-- ---- those of a type

-- a type beside its big maps
abbrev pub Beside : Type 0
Beside = Ty × List (Ty × Ty)

-- the big maps of one level of a type, where each part stands beside its own
abbrev pub big_maps_here : Ty-F Beside → List (Ty × Ty)
big_maps_here (ty.Pair s t) = s.1 ++ t.1
big_maps_here (ty.BigMap k v) = (k.0, v.0) ∷ []
big_maps_here _ = []

-- one level of a type with its big maps
abbrev pub beside_level : Ty-F Beside → Beside
beside_level x = (roll-Ty (map-Ty Beside Ty (λ p. p.0) x), big_maps_here x)

-- the big maps on the path of pairs from the root, from the left: the types of their keys and of their values
abbrev pub big_maps_of : Ty → List (Ty × Ty)
big_maps_of t = (fold-Ty Beside beside_level t).1

-- ---- those of a value

-- how many big maps a type has, and whether those of a value stand from a place on
abbrev pub Placing : Type 0
Placing = ℕ × (ℕ → Val → Bool)

-- the big maps of the second part stand behind those of the first
abbrev pub is_placed_pair : Placing → Placing → ℕ → Layer Val → Bool
is_placed_pair s t first (one.Pair a b) = s.1 first a && t.1 (first + s.0) b
is_placed_pair s t first _ = false

-- a big map with this place, whatever its version
abbrev pub is_at_place : ℕ → Layer Val → Bool
is_at_place first (one.BigMap place version) = place == first
is_at_place first _ = false

-- one level of a type
abbrev pub placing_level : Ty-F Placing → Placing
placing_level (ty.Pair s t) = (s.0 + t.0, λ first v. is_placed_pair s t first (out-Val v))
placing_level (ty.BigMap k v) = (1, λ first v. is_at_place first (out-Val v))
placing_level _ = (0, λ first v. true)

abbrev pub placing : Ty → Placing
placing = fold-Ty Placing placing_level

-- the k-th big map on the path of pairs, counted from 0 and from the left, has place k
abbrev pub is_placed : Val → Ty → Bool
is_placed v t = (placing t).1 0 v

-- the places that stand in a pair, first those of its first part
abbrev pub places_in_pair : (Val → List ℕ) → (Val → List ℕ) → Layer Val → List ℕ
places_in_pair s t (one.Pair a b) = s a ++ t b
places_in_pair s t _ = []

-- the place of a big map
abbrev pub place_of : Layer Val → List ℕ
place_of (one.BigMap place version) = place ∷ []
place_of _ = []

-- one level of a type, where each part tells the places in a value of its own
abbrev pub places_level : Ty-F (Val → List ℕ) → Val → List ℕ
places_level (ty.Pair s t) v = places_in_pair s t (out-Val v)
places_level (ty.BigMap k w) v = place_of (out-Val v)
places_level _ v = []

-- the places of the big maps of a value, where its type has some, from the left
abbrev pub places_of : Ty → Val → List ℕ
places_of = fold-Ty (Val → List ℕ) places_level

-- the place behind the big maps of a value, if they stand from the first place on
abbrev pub place_behind : Placing → ℕ → Val → Option ℕ
place_behind p first v = if p.1 first v then Some (first + p.0) else None
