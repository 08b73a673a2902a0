-- One operation more, or the stop that it meets.
use Rattle.std.proofs.Common.{ℕ, refl}
use Rattle.byte_fields.specs.Told.{read_stop}
use Rattle.byte_fields.proofs.Loops.{ends, goes_on}
use Rattle.block_codec.specs.Operation.{op, gas_up_to}
use Rattle.block_codec.proofs.reader.ops_at.Goals as goal

pub returns-in-Err : goal.returns-in-Err
returns-in-Err c =
    ends {S = ℕ} (read_stop c.in-Err.stop) op gas_up_to c.loop.total c.loop.ops.items c.args.count c.loop.counter c.loop.rest.now _ c.loop-test.true c.in-Err.ensures.read c.loop.invariant.so_far

pub loop-preserved : goal.loop-preserved
loop-preserved c = record {
  within = c.in-Ok.ensures.within;
  so_far =
      rw c.in_ok-push-in-Ok.ensures.items
      (goes_on {S = ℕ} op gas_up_to c.loop.total _ c.loop.ops.items c.args.count c.loop.counter c.loop.rest.now c.in-Ok.op c.in-Ok.after.now _ c.loop-test.true c.in-Ok.ensures.read refl c.loop.invariant.so_far);
}
