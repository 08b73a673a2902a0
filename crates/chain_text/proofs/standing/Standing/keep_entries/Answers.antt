-- One entry more is kept.
use Rattle.std.specs.Vec.Iter.{into_iter_items}
use Rattle.chain_text.specs.Standing.{with_entries}
use Rattle.chain_text.proofs.KeptEntries.{one_kept}
use Rattle.chain_text.proofs.standing.Standing.keep_entries.Goals as goal

pub loop-place-preserved : goal.loop-place-preserved
loop-place-preserved c = record {
  can_next = tt;
  is_finite = tt;
  left = one_kept c.loop-place.self c.put.new.self (record c.args.self.now { cells = with_entries c.args.address c.args.entries.items c.args.self.now.cells }) c.args.address
      (into_iter_items c.loop-place.place-iterator) (into_iter_items c.next.new.self) (c.in-Some.place, c.in-Some.key, c.in-Some.value) c.in-Some.ensures.steps.0 c.in_ok-put.ensures c.loop-place.invariant.left;
}
