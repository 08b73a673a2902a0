-- Cells under the bound went by, and there are shelves for them.
use Rattle.std.proofs.Common.{length}
use Rattle.std.specs.Option.{option_copied}
use Rattle.state_digest.proofs.Passing.{AreShelvedSoFar}
use Rattle.state_digest.proofs.shelves.shelve.Given as goal

abbrev pub invariant-loop-shelf : goal.invariant-loop-shelf
invariant-loop-shelf l = AreShelvedSoFar (option_copied l.bound) l.initial.rows l.rows l.initial.buckets l.buckets l.initial.shelves.items l.shelves.items

abbrev pub decreases-loop-shelf : goal.decreases-loop-shelf
decreases-loop-shelf l = length l.rows
