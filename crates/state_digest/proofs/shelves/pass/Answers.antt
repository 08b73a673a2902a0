-- There is a cell for each number, and it is the next.
use Rattle.state_digest.proofs.Cuts.{no_more}
use Rattle.state_digest.proofs.Passing.{one_passing, some_left}
use Rattle.state_digest.proofs.shelves.pass.Goals as goal

pub returns-in_default : goal.returns-in_default
returns-in_default c = λ run rest cut are.
    absurd
    (some_left run rest c.args.rows.now c.loop-number.rows c.args.buckets.now c.loop-number.buckets c.args.numbers.now c.loop-number.number-index
    (c.loop-number.invariant run rest cut are) c.loop-number-test.true (no_more c.loop-number.rows c.in_default.ensures.row.0))

pub loop-number-preserved : goal.loop-number-preserved
loop-number-preserved c = λ run rest cut are.
    one_passing run rest c.args.rows.now c.loop-number.rows c.next_under.new.self c.args.buckets.now c.loop-number.buckets c.put_row.new.buckets c.args.numbers.now c.loop-number.number-index c.in-Some.row
    (c.loop-number.invariant run rest cut are) c.loop-number-test.true c.in-Some.ensures.row.0 (λ its marks passed hold. c.in_ok-put_row.ensures marks passed its hold)
