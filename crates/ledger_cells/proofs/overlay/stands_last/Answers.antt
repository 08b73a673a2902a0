-- A key that the changes haven't is not found among them.
use Rattle.ledger_cells.proofs.Over.{no_change}
use Rattle.ledger_cells.proofs.overlay.stands_last.Goals as goal

pub returns-clause-slot : goal.returns-clause-slot
returns-clause-slot c = λ last. no_change c.args.changes.now.entries c.args.c.now c.contains_key.result c.contains_key.ensures c.if-contains_key.false
