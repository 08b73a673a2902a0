-- Some of the cells went by, there are shelves for them, and the old shelves that are left may be renewed.
use Rattle.std.proofs.Common.{length}
use Rattle.state_digest.specs.Shelving.{MayBeRenewed}
use Rattle.state_digest.specs.Touched.{cells_of}
use Rattle.state_digest.proofs.Renewing.{AreUnderWay}
use Rattle.state_digest.proofs.shelves.renew.Given as goal

abbrev pub invariant-loop-shelf : goal.invariant-loop-shelf
invariant-loop-shelf l = record {
  fit : MayBeRenewed l.old.items (cells_of l.touched) l.rows;
  way : AreUnderWay l.initial.rows l.rows l.shelves.items l.initial.buckets l.buckets;
}

abbrev pub decreases-loop-shelf : goal.decreases-loop-shelf
decreases-loop-shelf l = length l.old.items
