-- How deep types of each kind are.
use Rattle.std.proofs.Common.{◌≡◌, ℕ, ◌+◌, max, rules}
use Rattle.value_core.specs.declared.ty.Ty.{Ty}
use Rattle.value_core.specs.declared.ty.Ty.TheVariants as kind
use Rattle.value_core.specs.declared.ty.Ty.TheOpen as ty
use Rattle.value_core.specs.declared.ty.Ty.TheOpen.{Ty-F}
use Rattle.value_core.specs.declared.ty.Ty.TheViews.{out-Ty, the_lemmas}
use Rattle.value_core.specs.declared.ty.Ty.TheFolds.{map-Ty}
use Rattle.value_core.specs.Depth.{depth_of_type, level_depth}
use Rattle.value_core.specs.TypeLevels.{fold-at}

-- a type whose level is known
depth_at : (x : Ty-F Ty) (t : Ty) → out-Ty t ≡ x → depth_of_type t ≡ level_depth (map-Ty Ty ℕ depth_of_type x)
depth_at x t shows = fold-at level_depth t x shows

pub type_depth-option : (t : Ty) → depth_of_type (kind.Option t) ≡ 1 + depth_of_type t
type_depth-option t = depth_at (ty.Option t) _ (search (rules, the_lemmas))

pub type_depth-list : (t : Ty) → depth_of_type (kind.List t) ≡ 1 + depth_of_type t
type_depth-list t = depth_at (ty.List t) _ (search (rules, the_lemmas))

pub type_depth-set : (t : Ty) → depth_of_type (kind.Set t) ≡ 1 + depth_of_type t
type_depth-set t = depth_at (ty.Set t) _ (search (rules, the_lemmas))

pub type_depth-contract : (t : Ty) → depth_of_type (kind.Contract t) ≡ 1 + depth_of_type t
type_depth-contract t = depth_at (ty.Contract t) _ (search (rules, the_lemmas))

pub type_depth-or : (s t : Ty) → depth_of_type (kind.Or s t) ≡ 1 + max (depth_of_type s) (depth_of_type t)
type_depth-or s t = depth_at (ty.Or s t) _ (search (rules, the_lemmas))

pub type_depth-pair : (s t : Ty) → depth_of_type (kind.Pair s t) ≡ 1 + max (depth_of_type s) (depth_of_type t)
type_depth-pair s t = depth_at (ty.Pair s t) _ (search (rules, the_lemmas))

pub type_depth-map : (k w : Ty) → depth_of_type (kind.Map k w) ≡ 1 + max (depth_of_type k) (depth_of_type w)
type_depth-map k w = depth_at (ty.Map k w) _ (search (rules, the_lemmas))

pub type_depth-big_map : (k w : Ty) → depth_of_type (kind.BigMap k w) ≡ 1 + max (depth_of_type k) (depth_of_type w)
type_depth-big_map k w = depth_at (ty.BigMap k w) _ (search (rules, the_lemmas))

-- ---- without parts

pub type_depth-unit : depth_of_type kind.Unit ≡ 1
type_depth-unit = depth_at ty.Unit _ (search (rules, the_lemmas))

pub type_depth-bool : depth_of_type kind.Bool ≡ 1
type_depth-bool = depth_at ty.Bool _ (search (rules, the_lemmas))

pub type_depth-int : depth_of_type kind.Int ≡ 1
type_depth-int = depth_at ty.Int _ (search (rules, the_lemmas))

pub type_depth-nat : depth_of_type kind.Nat ≡ 1
type_depth-nat = depth_at ty.Nat _ (search (rules, the_lemmas))

pub type_depth-mutez : depth_of_type kind.Mutez ≡ 1
type_depth-mutez = depth_at ty.Mutez _ (search (rules, the_lemmas))

pub type_depth-time : depth_of_type kind.Time ≡ 1
type_depth-time = depth_at ty.Time _ (search (rules, the_lemmas))

pub type_depth-text : depth_of_type kind.Text ≡ 1
type_depth-text = depth_at ty.Text _ (search (rules, the_lemmas))

pub type_depth-bytes : depth_of_type kind.Bytes ≡ 1
type_depth-bytes = depth_at ty.Bytes _ (search (rules, the_lemmas))

pub type_depth-addr : depth_of_type kind.Addr ≡ 1
type_depth-addr = depth_at ty.Addr _ (search (rules, the_lemmas))

pub type_depth-operation : depth_of_type kind.Operation ≡ 1
type_depth-operation = depth_at ty.Operation _ (search (rules, the_lemmas))
