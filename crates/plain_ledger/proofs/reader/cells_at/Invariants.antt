use Rattle.std.proofs.Common.{◌≡◌, ◌-◌, ◌<◌, ◌^◌}
use Rattle.byte_fields.specs.Readers.{chained}
use Rattle.byte_fields.proofs.Loops.{with_front}
use Rattle.plain_ledger.specs.Reading.{holding, next, cells}
use Rattle.plain_ledger.proofs.reader.cells_at.Given as goal

abbrev pub invariant-loop : goal.invariant-loop
invariant-loop l = record {
  within : l.total < 2 ^ 63;
  so_far : with_front l.holdings.items (chained holding next (l.last, l.total) (l.count - l.counter) l.rest) ≡ cells l.count l.bytes;
}
