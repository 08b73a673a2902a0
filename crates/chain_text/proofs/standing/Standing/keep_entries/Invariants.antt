-- The entries that are left may still be kept, and with them the same stands.
use Rattle.std.specs.Vec.Iter.{into_iter_items}
use Rattle.chain_text.specs.Standing.{with_entries}
use Rattle.chain_text.proofs.KeptEntries.{AreLeft}
use Rattle.chain_text.proofs.standing.Standing.keep_entries.Given as goal

abbrev pub invariant-loop-place : goal.invariant-loop-place
invariant-loop-place l = record {
  can_next : goal.iterator-loop-place.can_next l.place-iterator;
  is_finite : goal.iterator-loop-place.is_finite l.place-iterator;
  left : AreLeft l.self (record l.fn.self { cells = with_entries l.address l.fn.entries.items l.fn.self.cells }) l.address (into_iter_items l.place-iterator);
}
