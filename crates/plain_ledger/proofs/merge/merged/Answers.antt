use Rattle.std.proofs.Common.{drop}
use Rattle.plain_ledger.proofs.HoldingLemmas.{merged_step, merged_end, Ascends-without, Ascends-drop}
use Rattle.plain_ledger.proofs.merge.merged.Goals as goal

pub loop-change-preserved : goal.loop-change-preserved
loop-change-preserved c = record {
  ascend = rw (c.past-rest.ensures, c.split_at.ensures.back)
      (Ascends-without c.change-item.result.address (drop c.place_in.result c.loop-change.rest.now) (Ascends-drop c.place_in.result c.loop-change.rest.now c.loop-change.invariant.ascend));
  so_far = rw (c.past-rest.ensures, c.in_ok-put.ensures, c.in_ok-extend_from_slice.ensures.items)
      (merged_step c.loop-change.out.items c.split_at.result.0.now c.split_at.result.1.now c.args.holdings.now c.args.changes.now c.change-item.result c.change-item.result c.loop-change.change-index c.place_in.result c.loop-change.rest.now
      c.loop-change.invariant.ascend c.requires.changes c.loop-change-test.true c.change-item.is c.split_at.ensures.front c.split_at.ensures.back c.place_in.ensures.below c.place_in.ensures.others c.loop-change.invariant.so_far);
}

pub returns : goal.returns
returns c = rw c.in_ok-extend_from_slice-2.ensures.items (merged_end _ _ _ _ _ c.requires.holdings c.loop-change-test.false c.loop-change.invariant.so_far)
