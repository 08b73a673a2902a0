-- What is left of the type takes what is left of the room.
use Rattle.std.proofs.Common.{◌≡◌, ◌≤◌}
use Rattle.value_core.specs.declared.ty.Ty.{size-Ty}
use Rattle.value_core.specs.Counting.{room_behind}
use Rattle.value_core.specs.Nodes.{nodes_of}
use Rattle.value_core.proofs.limits.+room_behind_nodes.Given as goal

abbrev pub invariant-loop-left : goal.invariant-loop-left
invariant-loop-left l = record {
  same : room_behind (nodes_of l.fn.t) l.fn.room ≡ room_behind (nodes_of l.rest) l.left;
  no_deeper : size-Ty l.rest ≤ size-Ty l.fn.t;
}

abbrev pub decreases-loop-left : goal.decreases-loop-left
decreases-loop-left l = size-Ty l.rest
