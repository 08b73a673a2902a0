-- Fewer sides are left.
use Rattle.std.proofs.Common.{length}
use Rattle.op_run.proofs.codes.+wrapped.Given as goal

abbrev pub decreases-wrapped : goal.decreases-wrapped
decreases-wrapped l = length l.path.now
