-- One more shelf.
use Rattle.std.specs.Option.{option_copied}
use Rattle.state_digest.proofs.Passing.{one_shelved}
use Rattle.state_digest.proofs.shelves.shelve.Goals as goal

pub loop-shelf-preserved : goal.loop-shelf-preserved
loop-shelf-preserved c =
    one_shelved (option_copied c.args.bound) c.args.rows.now c.loop-shelf.rows c.next_shelf.new.rows c.args.buckets.now c.loop-shelf.buckets c.next_shelf.new.buckets
    c.args.shelves.now.items c.loop-shelf.shelves.items c.push_back.new.self.items c.in-Some.shelf
    c.loop-shelf.invariant (rw c.in-Some.is at c.in_ok-shelf.ensures) c.in_ok-push_back.ensures.items
