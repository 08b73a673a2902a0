-- One more entry of the map.
use Rattle.ledger_cells.proofs.Over.{is_written}
use Rattle.ledger_cells.proofs.changes.write.Goals as goal

pub returns-clause-written : goal.returns-clause-written
returns-clause-written c = is_written c.args.changes.now.entries c.insert.new.self.entries c.args.c c.args.value c.in_ok-insert.ensures.updates.0
