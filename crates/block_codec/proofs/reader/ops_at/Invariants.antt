-- The gas stays within a block's; what was read, and with it what is still read, is the whole.
use Rattle.std.proofs.Common.{◌≡◌, ◌-◌, ◌≤◌}
use Rattle.byte_fields.specs.Readers.{chained}
use Rattle.byte_fields.proofs.Loops.{with_front}
use Rattle.block_codec.specs.declared.limits.TheConstants.{MOST_BLOCK_GAS}
use Rattle.block_codec.specs.Operation.{op, gas_up_to}
use Rattle.block_codec.specs.Reading.{ops}
use Rattle.block_codec.proofs.reader.ops_at.Given as goal

abbrev pub invariant-loop : goal.invariant-loop
invariant-loop l = record {
  within : l.total ≤ MOST_BLOCK_GAS;
  so_far : with_front l.ops.items (chained op gas_up_to l.total (l.count - l.counter) l.rest) ≡ ops l.count l.bytes;
}
