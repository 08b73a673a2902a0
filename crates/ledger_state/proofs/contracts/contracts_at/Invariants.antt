use Rattle.std.proofs.Common.{◌≡◌, ◌-◌, None}
use Rattle.std.specs.FinMap.{entries, len}
use Rattle.byte_fields.specs.Readers.{chained}
use Rattle.byte_fields.proofs.Loops.{with_front}
use Rattle.ledger_state.specs.BookReading.{contract, next_address}
use Rattle.ledger_state.proofs.Growing.{AreBelow}
use Rattle.ledger_state.proofs.contracts.contracts_at.Given as goal

abbrev pub invariant-loop : goal.invariant-loop
invariant-loop l = record {
  below : AreBelow l.last l.book;
  count : len l.book ≡ l.counter;
  so_far : with_front (entries l.book) (chained contract next_address l.last (l.count - l.counter) l.rest) ≡ chained contract next_address None l.count l.bytes;
}
