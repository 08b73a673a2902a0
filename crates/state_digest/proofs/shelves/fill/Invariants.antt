-- Cells under the bound went by, and their numbers are there.
use Rattle.std.proofs.Common.{length}
use Rattle.std.specs.Option.{option_copied}
use Rattle.state_digest.specs.Shelving.{AreNumbered}
use Rattle.state_digest.proofs.shelves.fill.Given as goal

abbrev pub invariant-loop-alloc : goal.invariant-loop-alloc
invariant-loop-alloc l = AreNumbered (option_copied l.bound) l.initial.rows l.rows l.initial.buckets l.buckets l.initial.numbers.items l.numbers.items

abbrev pub decreases-loop-alloc : goal.decreases-loop-alloc
decreases-loop-alloc l = length l.rows
