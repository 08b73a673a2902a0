-- One more cell is numbered.
use Rattle.std.specs.Option.{option_copied}
use Rattle.state_digest.proofs.Passing.{one_numbered}
use Rattle.state_digest.proofs.shelves.fill.Goals as goal

pub loop-alloc-preserved-in_ok-number_row : goal.loop-alloc-preserved-in_ok-number_row
loop-alloc-preserved-in_ok-number_row c =
    one_numbered (option_copied c.args.bound) c.in-Some.row c.args.rows.now c.loop-alloc.rows c.next_under.new.self c.args.buckets.now c.loop-alloc.buckets c.number_row.new.buckets
    c.args.numbers.now.items c.loop-alloc.numbers.items c.number_row.new.numbers.items
    c.loop-alloc.invariant c.in-Some.ensures.row.0 c.in-Some.ensures.row.1 c.in_ok-number_row.ensures.texts c.in_ok-number_row.ensures.numbers

pub loop-alloc-preserved : goal.loop-alloc-preserved
loop-alloc-preserved c =
    one_numbered (option_copied c.args.bound) c.in-Some.row c.args.rows.now c.loop-alloc.rows c.next_under.new.self c.args.buckets.now c.loop-alloc.buckets c.number_row.new.buckets
    c.args.numbers.now.items c.loop-alloc.numbers.items c.number_row.new.numbers.items
    c.loop-alloc.invariant c.in-Some.ensures.row.0 c.in-Some.ensures.row.1 c.in_ok-number_row.ensures.texts c.in_ok-number_row.ensures.numbers
