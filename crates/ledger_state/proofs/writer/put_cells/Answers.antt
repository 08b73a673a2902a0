-- From one cell to the next, until none is left.
use Rattle.std.specs.FinMap.{entries}
use Rattle.ledger_state.proofs.CellLaws.{Held}
use Rattle.ledger_state.proofs.CellTurns.{IsSpeltHeld, all_spelt, first_fits}
use Rattle.ledger_state.proofs.FileWritten.{all_walked, cells_begun, fitting_walk}
use Rattle.ledger_state.proofs.FitLaws.{cell_written, value_written}
use Rattle.ledger_state.proofs.Turns.{all_hold}
use Rattle.ledger_state.proofs.writer.put_cells.Goals as goal

pub loop-row-init : goal.loop-row-init
loop-row-init c = record {
  written = cells_begun c.args.cells.now.cells c.args.out.now.items c.to_be_bytes.result c.extend_from_slice.new.self.items c.walk-walk.result c.len-count.result
      c.in_ok-extend_from_slice.ensures.items c.to_be_bytes.ensures c.len-count.ensures.length c.walk-walk.ensures;
  fit = fitting_walk c.args.cells.now c.walk-walk.result c.len-count.ensures.lawful c.walk-walk.ensures;
  again = all_walked c.args.cells.now.cells c.walk-walk.result c.walk-walk.ensures;
}

pub put_row-requires-clause-cell : goal.put_row-requires-clause-cell
put_row-requires-clause-cell c =
    let e : Held = c.in-Some.row in
    cell_written c.args.cells.now.book e.0 e.1 c.len-count.ensures.lawful.book (first_fits c.args.cells.now.book c.loop-row.walk c.next.new.self e c.in-Some.ensures c.loop-row.invariant.fit)

pub put_row-requires-clause-plain : goal.put_row-requires-clause-plain
put_row-requires-clause-plain c =
    let e : Held = c.in-Some.row in
    (value_written c.args.cells.now.book e.0 e.1 c.len-count.ensures.lawful.book (first_fits c.args.cells.now.book c.loop-row.walk c.next.new.self e c.in-Some.ensures c.loop-row.invariant.fit)).plain

pub put_row-requires-clause-deep : goal.put_row-requires-clause-deep
put_row-requires-clause-deep c =
    let e : Held = c.in-Some.row in
    (value_written c.args.cells.now.book e.0 e.1 c.len-count.ensures.lawful.book (first_fits c.args.cells.now.book c.loop-row.walk c.next.new.self e c.in-Some.ensures c.loop-row.invariant.fit)).deep

pub returns-clause-again : goal.returns-clause-again
returns-clause-again c =
    all_spelt c.args.cells.now.cells (all_hold IsSpeltHeld (entries c.args.cells.now.cells) c.loop-row.walk c.in_default.ensures.0 c.loop-row.invariant.again)
