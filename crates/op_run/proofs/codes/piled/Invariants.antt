-- What is left, with what is piled, are the changes.
use Rattle.std.proofs.Common.{◌≡◌, ◌++◌, length}
use Rattle.op_run.proofs.codes.piled.Given as goal

abbrev pub invariant-loop-change : goal.invariant-loop-change
invariant-loop-change l = l.changes ++ l.pile ≡ l.fn.changes

abbrev pub decreases-loop-change : goal.decreases-loop-change
decreases-loop-change l = length l.changes
