-- A transfer that fails leaves those that wait as they were; one that goes on has an amount of money.
use Rattle.op_run.proofs.state.State.credit.Goals as goal

pub returns-then-self-eq0-clause-safe : goal.returns-then-self-eq0-clause-safe
returns-then-self-eq0-clause-safe c = λ m fit safe. c.fail.ensures.safe m safe.pending

pub returns-else-self-eq0-clause-safe : goal.returns-else-self-eq0-clause-safe
returns-else-self-eq0-clause-safe c = λ m fit safe. c.ask.ensures.safe m (record { now = safe.now; pending = safe.pending })
