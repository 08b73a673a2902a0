-- No cells of a book.
use Rattle.ledger_cells.proofs.Lawful.{lawful_none}
use Rattle.ledger_cells.proofs.cells.Cells.of_book.Goals as goal

pub invariant_of-result : goal.invariant_of-result
invariant_of-result c = lawful_none c.args.book c.new-overlay.result.cells c.new-overlay.result.slots c.len-contracts.ensures.book c.new-overlay.ensures.cells
