-- What was read, and with it what is still read, is the whole.
use Rattle.std.proofs.Common.{◌≡◌, ◌-◌}
use Rattle.byte_fields.specs.Readers.{many}
use Rattle.block_codec.specs.Receipts.{receipt}
use Rattle.byte_fields.proofs.Loops.{with_front}
use Rattle.block_codec.proofs.reader.receipts_at.Given as goal

abbrev pub invariant-loop : goal.invariant-loop
invariant-loop l = with_front l.receipts.items (many receipt (l.count - l.counter) l.rest) ≡ many receipt l.count l.bytes
