-- A change that may be written fits as an access.
use Rattle.std.proofs.Common.{subst}
use Rattle.op_run.specs.Safe.{ChangesFit}
use Rattle.op_run.proofs.state.State.write.Goals as goal

pub returns-in-None-behind_entry-clause-safe : goal.returns-in-None-behind_entry-clause-safe
returns-in-None-behind_entry-clause-safe c = λ m fit safe. c.fail.ensures.safe m safe.pending

pub returns-in-Some-behind_entry-clause-safe : goal.returns-in-Some-behind_entry-clause-safe
returns-in-Some-behind_entry-clause-safe c = λ m fit safe.
    c.ask.ensures.safe m (record { now = subst (ChangesFit c.args.self.now.book.now c.args.dest) c.in-Some.ensures safe.now; pending = safe.pending })
