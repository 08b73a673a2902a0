-- Storages: big maps are written as maps, and their entries are given beside the storage.
use Rattle.std.specs.Prelude.{ℕ, Bool, true, ◌&&◌, ◌==◌, IsSomeAnd, IsTrue, List, [], ◌∷◌, map, slice_get}
use Rattle.std.specs.List.{AllByRecursion, filter}
use Rattle.std.specs.declared.cmp.Ordering.{Ordering}
use Rattle.std.specs.Ordering.{is_lt, nat_cmp, ordering_then}
use Rattle.value_core.specs.declared.ty.Ty.{Ty}
use Rattle.value_core.specs.declared.ty.Ty.TheVariants as type
use Rattle.value_core.specs.declared.ty.Ty.TheOpen as ty
use Rattle.value_core.specs.declared.ty.Ty.TheOpen.{Ty-F}
use Rattle.value_core.specs.declared.ty.Ty.TheViews.{roll-Ty}
use Rattle.value_core.specs.declared.ty.Ty.TheFolds.{fold-Ty, map-Ty}
use Rattle.value_core.specs.declared.val.Val.{Val}
use Rattle.value_core.specs.declared.val.Val.TheVariants as value
use Rattle.value_core.specs.declared.val.Val.TheOpen as one
use Rattle.value_core.specs.declared.val.Val.TheViews.{out-Val, roll-Val}
use Rattle.value_core.specs.BigMaps.{big_maps_of, is_placed}
use Rattle.value_core.specs.Layer.{Layer, by_level}
use Rattle.value_core.specs.Order.{order}
use Rattle.value_core.specs.Sound.{is_countable, is_plain}
use Rattle.value_core.specs.Typed.{has_type}
use Rattle.micheline_text.specs.declared.node.Node.{Node}
use Rattle.data_nodes.specs.Data.{IsData}

-- ---- the type that is written: a map for each big map on the path of pairs from the root

-- one level of a type, with each part beside what is written for it
abbrev pub written_level : Ty-F (Ty × Ty) → Ty × Ty
written_level (ty.Pair s t) = (type.Pair s.0 t.0, type.Pair s.1 t.1)
written_level (ty.BigMap k v) = (type.BigMap k.0 v.0, type.Map k.0 v.0)
written_level x = let t : Ty = roll-Ty (map-Ty (Ty × Ty) Ty (λ p. p.0) x) in (t, t)

-- a type with maps for its big maps
abbrev pub with_maps : Ty → Ty
with_maps t = (fold-Ty (Ty × Ty) written_level t).1

-- ---- the value that is written: its entries in a map for each big map on the path of pairs from the root

-- an entry of a big map: its place, its key and its value
abbrev pub Entry : Type 0
Entry = ℕ × Val × Val

-- the keys and values of the entries with this place
abbrev pub entries_at : ℕ → List Entry → List (Val × Val)
entries_at place entries = map (λ e. (e.1, e.2)) (filter (λ e. e.0 == place) entries)

-- one level of a storage, whose parts say what stands in their places
abbrev pub joined_level : List Entry → Layer (Val → Val) → Layer Val → Val
joined_level entries (one.Pair f g) (one.Pair a b) = value.Pair (f a) (g b)
joined_level entries (one.BigMap place version) x = value.Map (entries_at place entries)
joined_level entries _ x = roll-Val x

-- a storage with its entries in their places
abbrev pub with_entries : List Entry → Val → Val
with_entries entries v = by_level {A = Val → Val} (λ x w. joined_level entries x (out-Val w)) v v

-- ---- the value that is kept, and the entries beside it

-- a storage with the entries of its big maps
abbrev pub Kept : Type 0
Kept = Val × List Entry

-- the entry's place is that of a big map, counted from the left, and its key and value have the types of that map's
abbrev pub IsEntryOf : List (Ty × Ty) → Entry → Type 0
IsEntryOf maps e = IsSomeAnd (slice_get maps e.0) (λ types. IsTrue (has_type e.1 types.0) × IsTrue (has_type e.2 types.1))

-- the order of entries: by place, then by key
abbrev pub entry_order : Entry → Entry → Ordering
entry_order d e = ordering_then (nat_cmp d.0 e.0) (order d.1 e.1)

-- each entry is below the next one
abbrev pub entries_ascend : List Entry → Bool
entries_ascend [] = true
entries_ascend (d ∷ []) = true
entries_ascend (d ∷ e ∷ es) = is_lt (entry_order d e) && entries_ascend (e ∷ es)

-- a value of the type with unchanged big maps, each at its own place, and entries of these big maps in order
pub record IsKept (t : Ty) (kept : Kept) : Type 0 where
  pub typed : IsTrue (has_type kept.0 t)
  pub placed : IsTrue (is_placed kept.0 t)
  pub plain : IsTrue (is_plain kept.0)
  pub entries : AllByRecursion (IsEntryOf (big_maps_of t)) kept.1
  pub ascending : IsTrue (entries_ascend kept.1)
  pub countable : (place : ℕ) → IsTrue (is_countable (entries_at place kept.1))

-- the node is data of the type with maps, and says the storage with its entries in these maps
pub record IsStorage (t : Ty) (n : Node) (kept : Kept) : Type 0 where
  pub is : IsKept t kept
  pub said : IsData (with_maps t) n (with_entries kept.1 kept.0)
