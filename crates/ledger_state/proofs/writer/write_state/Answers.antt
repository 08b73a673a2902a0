-- What was written of the book and of the cells can be read again.
use Rattle.ledger_state.proofs.FileWritten.{can_be_stored}
use Rattle.ledger_state.proofs.writer.write_state.Goals as goal

pub returns-clause-again : goal.returns-clause-again
returns-clause-again c =
    can_be_stored c.args.s.now c.cells-cells.result.now c.book.result.now c.cells-cells.ensures.cells c.cells-cells.ensures.lawful c.book.ensures c.requires c.in_ok-put_book.ensures.again c.in_ok-put_cells.ensures.again
