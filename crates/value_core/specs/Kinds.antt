-- Which types are passable, and which are comparable.
use Rattle.std.specs.Prelude.{Bool, true, false, ◌&&◌}
use Rattle.value_core.specs.declared.ty.Ty.{Ty}
use Rattle.value_core.specs.declared.ty.Ty.TheOpen as ty
use Rattle.value_core.specs.declared.ty.Ty.TheOpen.{Ty-F}
use Rattle.value_core.specs.declared.ty.Ty.TheFolds.{fold-Ty}

-- one level of a type, whose parts say whether they are passable
abbrev pub passable_level : Ty-F Bool → Bool
passable_level (ty.Option t) = t
passable_level (ty.Or s t) = s && t
passable_level (ty.Pair s t) = s && t
passable_level (ty.List t) = t
passable_level (ty.Set t) = t
passable_level (ty.Map k v) = k && v
passable_level (ty.BigMap k v) = false
passable_level (ty.Contract t) = false
passable_level ty.Operation = false
passable_level _ = true

-- no contract, operation or big map stands in the type
abbrev pub is_passable : Ty → Bool
is_passable = fold-Ty Bool passable_level

-- one level of a type, whose parts say whether they are comparable
abbrev pub comparable_level : Ty-F Bool → Bool
comparable_level (ty.Option t) = t
comparable_level (ty.Or s t) = s && t
comparable_level (ty.Pair s t) = s && t
comparable_level (ty.List t) = false
comparable_level (ty.Set t) = false
comparable_level (ty.Map k v) = false
comparable_level (ty.BigMap k v) = false
comparable_level (ty.Contract t) = false
comparable_level ty.Operation = false
comparable_level _ = true

-- the type is built of scalars, options, ors and pairs
abbrev pub is_comparable : Ty → Bool
is_comparable = fold-Ty Bool comparable_level
