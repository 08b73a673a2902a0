-- The bucket of one more touched cell is marked.
use Rattle.std.proofs.Common.{[], ◌+◌, ◌||◌, ◌==◌, take}
use Rattle.state_digest.specs.Digests.{is_touched}
use Rattle.state_digest.proofs.Gathering.{marked_alike, one_touched}
use Rattle.state_digest.proofs.buckets.mark_touched.Goals as goal

pub loop-c-preserved : goal.loop-c-preserved
loop-c-preserved c =
    let i = c.loop-c.c-index in
    marked_alike (λ k. c.in_ok-number.number == k || is_touched (take i c.args.touched.now) k) (λ k. is_touched (take (i + 1) c.args.touched.now) k) [] c.mark.new.buckets
    (λ k. one_touched c.args.touched.now i c.in_ok-number.number c.c-item.result k c.loop-c-test.true c.c-item.is c.in_ok-number.ensures)
    (c.mark.ensures (λ k. is_touched (take i c.args.touched.now) k) c.loop-c.invariant)
