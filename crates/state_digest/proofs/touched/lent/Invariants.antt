-- The cells so far are lent.
use Rattle.std.proofs.Common.{◌≡◌, take}
use Rattle.state_digest.specs.Touched.{cells_of}
use Rattle.state_digest.proofs.touched.lent.Given as goal

abbrev pub invariant-loop-c : goal.invariant-loop-c
invariant-loop-c l = cells_of l.lent.items ≡ take l.c-index l.cells
