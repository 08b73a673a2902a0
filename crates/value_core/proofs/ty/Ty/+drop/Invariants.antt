-- What is left to drop is no deeper than the type.
use Rattle.std.proofs.Common.{◌≤◌}
use Rattle.value_core.specs.declared.ty.Ty.{size-Ty}
use Rattle.value_core.proofs.ty.Ty.+drop.Given as goal

abbrev pub invariant-loop-self : goal.invariant-loop-self
invariant-loop-self l = size-Ty l.self ≤ size-Ty l.initial.self
