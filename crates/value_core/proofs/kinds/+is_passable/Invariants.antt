-- The type is passable where what is left of it is.
use Rattle.std.proofs.Common.{◌≡◌, ◌≤◌}
use Rattle.value_core.specs.declared.ty.Ty.{size-Ty}
use Rattle.value_core.specs.Kinds.{is_passable}
use Rattle.value_core.proofs.kinds.+is_passable.Given as goal

abbrev pub invariant-loop-t : goal.invariant-loop-t
invariant-loop-t l = (is_passable l.fn.t ≡ is_passable l.t) × (size-Ty l.t ≤ size-Ty l.fn.t)
