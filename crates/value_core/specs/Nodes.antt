-- How many nodes types have.
use Rattle.std.specs.Prelude.{ℕ, ◌+◌}
use Rattle.value_core.specs.declared.ty.Ty.{Ty}
use Rattle.value_core.specs.declared.ty.Ty.TheOpen as ty
use Rattle.value_core.specs.declared.ty.Ty.TheOpen.{Ty-F}
use Rattle.value_core.specs.declared.ty.Ty.TheFolds.{fold-Ty}

-- one level of a type, with the number of nodes of each part in its place
abbrev pub level_nodes : Ty-F ℕ → ℕ
level_nodes (ty.Option t) = 1 + t
level_nodes (ty.Or s t) = 1 + s + t
level_nodes (ty.Pair s t) = 1 + s + t
level_nodes (ty.List t) = 1 + t
level_nodes (ty.Set t) = 1 + t
level_nodes (ty.Map k v) = 1 + k + v
level_nodes (ty.BigMap k v) = 1 + k + v
level_nodes (ty.Contract t) = 1 + t
level_nodes _ = 1

-- a type is one node with those of its parts
abbrev pub nodes_of : Ty → ℕ
nodes_of = fold-Ty ℕ level_nodes
