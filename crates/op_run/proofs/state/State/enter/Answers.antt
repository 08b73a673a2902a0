-- A transfer that fails leaves those that wait as they were.
use Rattle.op_run.proofs.state.State.enter.Goals as goal

pub returns-in-Err-NoSuchContract-clause-safe : goal.returns-in-Err-NoSuchContract-clause-safe
returns-in-Err-NoSuchContract-clause-safe c = λ m fit safe. c.fail.ensures.safe m safe.pending

pub returns-in-Err-NoSuchEntry-clause-safe : goal.returns-in-Err-NoSuchEntry-clause-safe
returns-in-Err-NoSuchEntry-clause-safe c = λ m fit safe. c.fail-in-Err-NoSuchEntry.ensures.safe m safe.pending

pub returns-clause-safe : goal.returns-clause-safe
returns-clause-safe c = λ m fit safe. c.fail-else-has_type.ensures.safe m safe.pending
