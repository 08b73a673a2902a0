-- What is left has the same beyond the bound.
use Rattle.std.proofs.Common.{◌≡◌, length}
use Rattle.std.specs.Option.{option_copied}
use Rattle.state_digest.specs.Touched.{beyond, cells_of}
use Rattle.state_digest.proofs.touched.beyond.Given as goal

abbrev pub invariant-loop-left : goal.invariant-loop-left
invariant-loop-left l = beyond (option_copied l.bound) (cells_of l.left) ≡ beyond (option_copied l.bound) (cells_of l.touched)

abbrev pub decreases-loop-left : goal.decreases-loop-left
decreases-loop-left l = length l.left
