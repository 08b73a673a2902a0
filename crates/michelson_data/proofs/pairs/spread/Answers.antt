-- A part more stands on the stack, and all that is left is a pair where a part more is wanted.
use Rattle.std.proofs.Common.{sym, ◌∙◌, arith}
use Rattle.michelson_data.proofs.PartLaws.{no_part, part_put, still_high, still_under}
use Rattle.michelson_data.proofs.pairs.spread.Goals as goal

pub returns-in-Err : goal.returns-in-Err
returns-in-Err c = record {
  parts = λ parts is. absurd (no_part c.args.n c.loop.counter c.len-below.result c.args.v c.loop.rest c.loop.stack.items parts
      c.loop-test.true c.in-Err.ensures.unpaired c.loop.invariant.told is);
}

pub loop-preserved : goal.loop-preserved
loop-preserved c = record {
  told = part_put c.args.n c.loop.counter c.len-below.result c.args.v c.loop.rest c.in-Ok.first c.in-Ok.after c.loop.stack.items c.push_reserved.new.self.items
      c.loop-test.true c.loop.invariant.high c.in-Ok.ensures.pair c.push_reserved.ensures.items c.loop.invariant.told;
  under = c.loop.invariant.under ∙ sym (still_under c.len-below.result c.in-Ok.first c.loop.stack.items c.push_reserved.new.self.items c.loop.invariant.high c.push_reserved.ensures.items);
  high = still_high c.len-below.result c.in-Ok.first c.loop.stack.items c.push_reserved.new.self.items c.loop.invariant.high c.push_reserved.ensures.items;
  height = omega (arith, c.loop.invariant.height, c.push_reserved.ensures.len);
  room = omega (arith, c.loop.invariant.room, c.push_reserved.ensures.len, c.push_reserved.ensures.capacity, c.loop-test.true);
}
