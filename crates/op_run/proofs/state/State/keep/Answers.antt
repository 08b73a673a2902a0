-- Where a big map was moved, what waits is as safe as it was.
use Rattle.op_run.proofs.state.State.keep.Goals as goal

pub returns-else-is_placed-clause-safe : goal.returns-else-is_placed-clause-safe
returns-else-is_placed-clause-safe c = λ m all safe. c.fail.ensures.safe m safe.pending
