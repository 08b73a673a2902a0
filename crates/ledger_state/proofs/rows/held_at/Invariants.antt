use Rattle.std.proofs.Common.{◌≡◌, ◌-◌}
use Rattle.std.specs.FinMap.{entries}
use Rattle.byte_fields.specs.Readers.{chained}
use Rattle.byte_fields.proofs.Loops.{with_front}
use Rattle.ledger_state.specs.Inside.{IsLast, before}
use Rattle.ledger_state.specs.Reading.{held, next, start}
use Rattle.ledger_state.proofs.rows.held_at.Given as goal

abbrev pub invariant-loop : goal.invariant-loop
invariant-loop l = record {
  flight : l.cells.flight ≡ 0;
  made_for : l.cells.book ≡ l.book;
  last_is : IsLast l.last l.cells.cells;
  so_far : with_front (entries l.cells.cells) (chained (held l.book) next (before l.last l.cells.cells) (l.count - l.counter) l.rest) ≡ chained (held l.book) next start l.count l.bytes;
}
