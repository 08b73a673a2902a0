-- Values of typed scripts: each has its type, and each big map in it stands at a place with such keys and values.
use Rattle.std.specs.Prelude.{◌≡◌, ◌≤◌, ◌<◌, ◌^◌, ℕ, List, [], ◌∷◌, ◌++◌, length, IsTrue, Option, Some, None}
use Rattle.std.specs.List.{AllByRecursion, flat_map, slice_get}
use Rattle.std.specs.FinMap.{get}
use Rattle.value_core.specs.declared.ty.Ty.{Ty}
use Rattle.value_core.specs.declared.ty.Ty.TheOpen as ty
use Rattle.value_core.specs.declared.ty.Ty.TheOpen.{Ty-F}
use Rattle.value_core.specs.declared.ty.Ty.TheViews.{out-Ty}
use Rattle.value_core.specs.declared.val.Val.{Val}
use Rattle.value_core.specs.declared.val.Val.TheOpen as one
use Rattle.value_core.specs.Kinds.{is_passable}
use Rattle.value_core.specs.Layer.{Layer, by_level}
use Rattle.value_core.specs.Sorted.{keys_of}
use Rattle.value_core.specs.Sound.{ascends}
use Rattle.value_core.specs.Typed.{has_type}
use Rattle.michelson_rules.specs.declared.ask.Env.{Env}
use Rattle.michelson_rules.specs.World.{World}
use Rattle.michelson_rules.specs.Runs.{Changes, changes_of}
use Rattle.michelson_rules.specs.TypedStacks.{StackHas}

-- ---- the big maps in a value

-- a big map in a value: its place and version, and the types of its keys and of its items
pub record Standing : Type 0 where
  pub place : ℕ
  pub version : ℕ
  pub key : Ty
  pub item : Ty

-- those of one level of a value against one level of a type, whose parts tell their own
abbrev pub standing_level : Layer (Ty → List Standing) → Ty-F Ty → List Standing
standing_level (one.Some part) (ty.Option t) = part t
standing_level (one.Left part) (ty.Or s t) = part s
standing_level (one.Right part) (ty.Or s t) = part t
standing_level (one.Pair a b) (ty.Pair s t) = a s ++ b t
standing_level (one.List items) (ty.List t) = flat_map (λ item. item t) items
standing_level (one.Set items) (ty.Set t) = flat_map (λ item. item t) items
standing_level (one.Map entries) (ty.Map k t) = flat_map (λ e. e.0 k ++ e.1 t) entries
standing_level (one.BigMap place version) (ty.BigMap k t) = record { place = place; version = version; key = k; item = t } ∷ []
standing_level _ _ = []

-- the big maps in a value of a type, from the left
abbrev pub standing : Val → Ty → List Standing
standing = by_level {A = Ty → List Standing} (λ x t. standing_level x (out-Ty t))

-- a value has the type, and each big map in it is such
pub record IsTypedWith (Right : Standing → Type 0) (v : Val) (t : Ty) : Type 0 where
  pub typed : IsTrue (has_type v t)
  pub big_maps : AllByRecursion Right (standing v t)

-- ---- values that belong to types, where the big maps of a storage are these

-- a key of the one type, and an item of the other or none
abbrev pub IsChangeOf : Ty → Ty → Val × Option Val → Type 0
IsChangeOf k t (key, None) = IsTrue (has_type key k)
IsChangeOf k t (key, Some v) = IsTrue (has_type key k) × IsTrue (has_type v t)

-- changes ascend by key, and have keys and items of these types
pub record AreChangesOf (k t : Ty) (changes : Changes) : Type 0 where
  pub ascending : IsTrue (ascends (keys_of changes))
  pub typed : AllByRecursion (IsChangeOf k t) changes

module _ (maps : List (Ty × Ty)) (versions : List Changes) where
  -- a big map has the types of its place, and a version that exists, whose changes have these types
  pub record StandsRight (m : Standing) : Type 0 where
    pub types : slice_get maps m.place ≡ Some (m.key, m.item)
    pub exists : m.version ≤ length versions
    pub changes : AreChangesOf m.key m.item (changes_of m.version versions)

  -- a value has the type, and each big map in it stands right
  abbrev pub Belongs : Val → Ty → Type 0
  Belongs = IsTypedWith StandsRight

  -- a stack has a value of each type, and no other
  abbrev pub AllBelong : List Val → List Ty → Type 0
  AllBelong = StackHas Belongs

-- ---- the world around a typed script

-- the items of each place may be passed, so no big map stands in them
abbrev pub HasPassableItems : List (Ty × Ty) → Type 0
HasPassableItems maps = (place : ℕ) (k t : Ty) → slice_get maps place ≡ Some (k, t) → IsTrue (is_passable t)

-- the world has keys and items of the types of each place, and a balance in its range
pub record FitsMaps (maps : List (Ty × Ty)) (w : World) : Type 0 where
  pub entries : (place : ℕ) (k t : Ty) (key v : Val) → slice_get maps place ≡ Some (k, t) → get (w.map_at place) key ≡ Some v →
      IsTrue (has_type key k) × IsTrue (has_type v t)
  pub balance : w.balance < 2 ^ 63

-- the amount of the call is in its range
pub record IsInRange (env : Env) : Type 0 where
  pub amount : env.amount < 2 ^ 63
