-- What was read, and with it what is still read, is the whole.
use Rattle.std.proofs.Common.{◌≡◌, ◌-◌}
use Rattle.byte_fields.specs.Readers.{many}
use Rattle.cell_names.specs.Reading.{footprint}
use Rattle.byte_fields.proofs.Loops.{with_front}
use Rattle.block_codec.proofs.reader.footprints_at.Given as goal

abbrev pub invariant-loop : goal.invariant-loop
invariant-loop l = with_front l.footprints.items (many footprint (l.count - l.counter) l.rest) ≡ many footprint l.count l.bytes
