-- The row of the cell decides.
use Rattle.std.proofs.Common.{subst}
use Rattle.abstract_locks.specs.Holders.{AreApart, Answers}
use Rattle.abstract_locks.specs.Tables.{Table, held}
use Rattle.abstract_locks.proofs.table.LockTable.test.Goals as goal

pub returns-clause-answer : goal.returns-clause-answer
returns-clause-answer c =
    subst (λ (table : Table). Answers (held table c.args.c.now) c.args.ticket c.args.m c.answer.result) c.self.view_is c.answer.ensures.answer

pub returns-clause-apart : goal.returns-clause-apart
returns-clause-apart c = subst (λ (table : Table). AreApart (held table c.args.c.now)) c.self.view_is c.answer.ensures.apart
