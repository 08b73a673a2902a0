-- What was read, and with it what is still read, is the whole.
use Rattle.std.proofs.Common.{◌≡◌, ◌-◌}
use Rattle.block_codec.specs.Reading.{numbers}
use Rattle.byte_fields.proofs.Loops.{with_front}
use Rattle.block_codec.proofs.reader.numbers_at.Given as goal

abbrev pub invariant-loop : goal.invariant-loop
invariant-loop l = with_front l.all.items (numbers (l.count - l.counter) l.rest) ≡ numbers l.count l.bytes
