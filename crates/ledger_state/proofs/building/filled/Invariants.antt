use Rattle.std.proofs.Common.{◌≡◌, ◌+◌, ◌<◌, ◌^◌}
use Rattle.std.specs.FinMap.{empty}
use Rattle.std.specs.Vec.Iter.{into_iter_items, into_iter_len}
use Rattle.ledger_state.specs.Building.{added}
use Rattle.ledger_state.proofs.building.filled.Given as goal

abbrev pub invariant-loop-cell : goal.invariant-loop-cell
invariant-loop-cell l = record {
  can_next : goal.iterator-loop-cell.can_next l.cell-iterator;
  is_finite : goal.iterator-loop-cell.is_finite l.cell-iterator;
  room : l.at + into_iter_len l.cell-iterator < 2 ^ 64;
  made_for : l.cells.book ≡ l.book;
  flight : l.cells.flight ≡ 0;
  so_far : added l.book l.at l.cells.cells (into_iter_items l.cell-iterator) ≡ added l.book 0 empty l.fn.rows.items;
}
