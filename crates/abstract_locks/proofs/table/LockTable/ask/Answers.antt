-- What was free is free: a reservation changes nothing that is held.
use Rattle.std.proofs.Common.{sym, subst}
use Rattle.cell_names.specs.declared.cell.Cell.{Cell}
use Rattle.abstract_locks.specs.Holders.{Holders, IsFree}
use Rattle.abstract_locks.proofs.table.LockTable.ask.Goals as goal

pub grant-requires-clause-free : goal.grant-requires-clause-free
grant-requires-clause-free c = subst (λ (h : Cell → Holders). IsFree (h c.args.c.now) c.args.ticket c.args.m) (sym c.reserve.ensures.unchanged) c.in-Granted.ensures.answer
