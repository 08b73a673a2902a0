-- One number more, or the stop that it meets.
use Rattle.std.proofs.Common.{refl}
use Rattle.std.specs.Int.{w32}
use Rattle.byte_fields.specs.Readers.{number}
use Rattle.byte_fields.specs.Told.{left_stop}
use Rattle.byte_fields.proofs.Loops.{goes_on, stops}
use Rattle.block_codec.proofs.reader.numbers_at.Goals as goal

pub returns-in-Err : goal.returns-in-Err
returns-in-Err c =
    rw c.from.ensures
    (stops {S = Unit {0}} (left_stop c.in-Err.stop) (λ state. number w32) (λ state n. state) tt c.loop.all.items c.args.count c.loop.counter c.loop.rest.now _ c.loop-test.true c.in-Err.ensures c.loop.invariant)

pub loop-preserved : goal.loop-preserved
loop-preserved c =
    rw c.in_ok-push-in-Ok.ensures.items
    (goes_on {S = Unit {0}} (λ state. number w32) (λ state n. state) tt tt c.loop.all.items c.args.count c.loop.counter c.loop.rest.now c.in-Ok.number c.in-Ok.after.now _ c.loop-test.true c.in-Ok.ensures refl c.loop.invariant)
