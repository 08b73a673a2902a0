-- Where the access isn't made, those that wait are as they were.
use Rattle.op_run.proofs.state.State.ask.Goals as goal

pub returns-then-is_full_for-clause-safe : goal.returns-then-is_full_for-clause-safe
returns-then-is_full_for-clause-safe c = λ m safe. c.fail.ensures.safe m safe.pending
