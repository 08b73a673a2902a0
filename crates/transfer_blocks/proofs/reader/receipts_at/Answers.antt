-- One item more, or the stop that it meets.
use Rattle.cell_names.specs.Stops.{field_stop}
use Rattle.cell_names.proofs.StopLemmas.{stop_of_field}
use Rattle.transfer_blocks.specs.Reading.{receipt}
use Rattle.transfer_blocks.proofs.Items.{one_more, stop_of_all}
use Rattle.transfer_blocks.proofs.reader.receipts_at.Goals as goal

pub returns-in-Err : goal.returns-in-Err
returns-in-Err c =
    stop_of_field c.in-Err.stop _ _ c.from.ensures
    (stop_of_all receipt c.loop.receipts.items c.args.count c.loop.counter c.loop.rest.now _ c.loop-test.true c.loop.invariant (field_stop c.in-Err.stop) c.in-Err.ensures)

pub loop-preserved : goal.loop-preserved
loop-preserved c =
    one_more receipt c.loop.receipts.items c.args.count c.loop.counter c.loop.rest.now _ c.loop-test.true c.loop.invariant c.push.new.self.items c.in-Ok.receipt c.in-Ok.after.now
    c.in_ok-push-in-Ok.ensures.items c.in-Ok.ensures
