-- The type is comparable where what is left of it is.
use Rattle.std.proofs.Common.{◌≡◌, ◌≤◌}
use Rattle.value_core.specs.declared.ty.Ty.{size-Ty}
use Rattle.value_core.specs.Kinds.{is_comparable}
use Rattle.value_core.proofs.kinds.+is_comparable.Given as goal

abbrev pub invariant-loop-t : goal.invariant-loop-t
invariant-loop-t l = (is_comparable l.fn.t ≡ is_comparable l.t) × (size-Ty l.t ≤ size-Ty l.fn.t)
