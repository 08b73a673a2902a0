use Rattle.std.proofs.Common.{Some, ◌+◌, refl}
use Rattle.byte_fields.proofs.Loops.{goes_on, ends}
use Rattle.cell_names.specs.Stops.{format_stop}
use Rattle.plain_ledger.specs.Reading.{holding, next, cells}
use Rattle.plain_ledger.proofs.reader.cells_at.Goals as goal

pub returns-in-Err : goal.returns-in-Err
returns-in-Err c =
    ends (format_stop c.in-Err.stop) holding next (c.loop.last, c.loop.total) c.loop.holdings.items c.args.count c.loop.counter c.loop.rest.now (cells c.args.count c.args.bytes.now) c.loop-test.true c.in-Err.ensures.read c.loop.invariant.so_far

pub loop-preserved : goal.loop-preserved
loop-preserved c = record {
  within = c.in-Ok.ensures.within;
  so_far = rw c.in_ok-push-in-Ok.ensures.items (goes_on holding next (c.loop.last, c.loop.total) (Some c.in-Ok.holding.address, c.loop.total + c.in-Ok.holding.amount) c.loop.holdings.items c.args.count c.loop.counter c.loop.rest.now c.in-Ok.holding c.in-Ok.after.now (cells c.args.count c.args.bytes.now) c.loop-test.true c.in-Ok.ensures.read refl c.loop.invariant.so_far);
}
