-- How deep values and types are.
use Rattle.std.specs.Prelude.{ℕ, ◌+◌, List, [], ◌∷◌, max}
use Rattle.value_core.specs.declared.val.Val.{Val}
use Rattle.value_core.specs.declared.ty.Ty.{Ty}
use Rattle.value_core.specs.declared.ty.Ty.TheOpen as ty
use Rattle.value_core.specs.declared.ty.Ty.TheOpen.{Ty-F}
use Rattle.value_core.specs.declared.ty.Ty.TheFolds.{fold-Ty}
use Rattle.value_core.specs.Layer.{by_level, parts_of}

-- the greatest of the numbers, or 0
abbrev pub greatest : List ℕ → ℕ
greatest [] = 0
greatest (n ∷ ns) = max n (greatest ns)

-- a value is one deeper than its deepest part, and 1 deep without parts
abbrev pub depth_of : Val → ℕ
depth_of = by_level (λ x. 1 + greatest (parts_of x))

-- one level of a type, with the depth of each part in its place
abbrev pub level_depth : Ty-F ℕ → ℕ
level_depth (ty.Option t) = 1 + t
level_depth (ty.Or s t) = 1 + max s t
level_depth (ty.Pair s t) = 1 + max s t
level_depth (ty.List t) = 1 + t
level_depth (ty.Set t) = 1 + t
level_depth (ty.Map k v) = 1 + max k v
level_depth (ty.BigMap k v) = 1 + max k v
level_depth (ty.Contract t) = 1 + t
level_depth _ = 1

-- a type is one deeper than its deepest part, and 1 deep without parts
abbrev pub depth_of_type : Ty → ℕ
depth_of_type = fold-Ty ℕ level_depth
