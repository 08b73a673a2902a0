-- The gas stays within a block's; what was read, and with it what is still read, is the whole.
use Rattle.std.proofs.Common.{◌≡◌, ◌-◌, ◌≤◌}
use Rattle.byte_fields.specs.Readers.{chained}
use Rattle.transfer_blocks.specs.Operation.{op, gas_up_to}
use Rattle.transfer_blocks.specs.Reading.{ops}
use Rattle.byte_fields.proofs.Loops.{with_front}
use Rattle.transfer_blocks.proofs.reader.ops_at.Given as goal

abbrev pub invariant-loop : goal.invariant-loop
invariant-loop l = record {
  within : l.total ≤ 1000000000;
  so_far : with_front l.ops.items (chained op gas_up_to l.total (l.count - l.counter) l.rest) ≡ ops l.count l.bytes;
}
