-- The cell isn't there, since it is above the last one; then its value is read.
use Rattle.std.specs.Option.{option_copied}
use Rattle.ledger_state.proofs.CellTurns.{is_new}
use Rattle.ledger_state.proofs.rows.next_held.Goals as goal

pub value_into-requires-clause-new : goal.value_into-requires-clause-new
value_into-requires-clause-new c = is_new (option_copied c.args.last) c.args.cells.now.cells c.in-Ok.cell c.requires.last c.in-Ok.ensures.above
