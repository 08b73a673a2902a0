-- One more of the old shelves is renewed, and then all cells that are left are on shelves.
use Rattle.std.specs.Option.{option_copied}
use Rattle.state_digest.specs.Touched.{cells_of}
use Rattle.state_digest.proofs.Renewing.{all_renewed, further, kept_at, others_at}
use Rattle.state_digest.proofs.shelves.renew.Goals as goal

pub renew_shelf-requires-clause-kept : goal.renew_shelf-requires-clause-kept
renew_shelf-requires-clause-kept c =
    kept_at (option_copied c.first_of-bound.result) c.loop-shelf.old.items c.pop_front.new.self.items c.in-Some.shelf (cells_of c.loop-shelf.touched.now) c.loop-shelf.rows
    c.in-Some.ensures.items c.first_of-bound.ensures c.loop-shelf.invariant.fit

pub loop-shelf-preserved : goal.loop-shelf-preserved
loop-shelf-preserved c =
    let bound = option_copied c.first_of-bound.result in
    record {
      fit =
          others_at bound c.loop-shelf.old.items c.pop_front.new.self.items c.in-Some.shelf (cells_of c.loop-shelf.touched.now) (cells_of c.beyond-touched.result.now)
          c.loop-shelf.rows c.renew_shelf.new.rows c.loop-shelf.buckets c.renew_shelf.new.buckets c.loop-shelf.shelves.items c.renew_shelf.new.shelves.items
          c.in-Some.ensures.items c.first_of-bound.ensures c.beyond-touched.ensures c.loop-shelf.invariant.fit c.in_ok-renew_shelf.ensures;
      way =
          further c.args.rows.now c.loop-shelf.rows c.renew_shelf.new.rows c.loop-shelf.shelves.items c.renew_shelf.new.shelves.items bound
          c.args.buckets.now c.loop-shelf.buckets c.renew_shelf.new.buckets c.loop-shelf.invariant.way c.in_ok-renew_shelf.ensures;
    }

pub returns : goal.returns
returns c =
    let on = c.in_ok-shelve.ensures in
    all_renewed c.args.rows.now c.shelve.new.rows c.shelve.new.shelves.items c.args.buckets.now c.shelve.new.buckets
    (further c.args.rows.now c.loop-shelf.rows c.shelve.new.rows c.loop-shelf.shelves.items c.shelve.new.shelves.items _
    c.args.buckets.now c.loop-shelf.buckets c.shelve.new.buckets c.loop-shelf.invariant.way on) on.stop
