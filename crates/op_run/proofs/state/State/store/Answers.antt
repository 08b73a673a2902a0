-- A storage that may be written fits as an access.
use Rattle.op_run.proofs.state.State.store.Goals as goal

pub returns-in-None-clause-safe : goal.returns-in-None-clause-safe
returns-in-None-clause-safe c = λ m fit safe. c.fail.ensures.safe m safe.pending

pub returns-in-Some-clause-safe : goal.returns-in-Some-clause-safe
returns-in-Some-clause-safe c = λ m fit safe. c.ask.ensures.safe m (record { now = safe.now; pending = safe.pending })
