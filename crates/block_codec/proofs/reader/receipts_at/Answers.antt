-- One item more, or the stop that it meets.
use Rattle.byte_fields.specs.Told.{read_stop}
use Rattle.block_codec.specs.Receipts.{receipt}
use Rattle.block_codec.proofs.Items.{one_more, stops_all}
use Rattle.block_codec.proofs.reader.receipts_at.Goals as goal

pub returns-in-Err : goal.returns-in-Err
returns-in-Err c = stops_all receipt c.loop.receipts.items c.args.count c.loop.counter c.loop.rest.now _ c.loop-test.true c.loop.invariant (read_stop c.in-Err.stop) c.in-Err.ensures

pub loop-preserved : goal.loop-preserved
loop-preserved c =
    one_more receipt c.loop.receipts.items c.args.count c.loop.counter c.loop.rest.now _ c.loop-test.true c.loop.invariant c.push.new.self.items c.in-Ok.receipt c.in-Ok.after.now
    c.in_ok-push-in-Ok.ensures.items c.in-Ok.ensures
