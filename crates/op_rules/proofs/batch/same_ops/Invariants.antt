-- The fronts that were compared are equal.
use Rattle.std.proofs.Common.{◌≡◌, take}
use Rattle.op_rules.proofs.batch.same_ops.Given as goal

abbrev pub invariant-loop-i : goal.invariant-loop-i
invariant-loop-i l = take l.i l.a ≡ take l.i l.b
