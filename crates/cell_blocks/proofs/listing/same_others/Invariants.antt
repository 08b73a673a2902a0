-- The cells so far are the same.
use Rattle.std.proofs.Common.{◌≡◌, take}
use Rattle.cell_blocks.proofs.listing.same_others.Given as goal

abbrev pub invariant-loop-i : goal.invariant-loop-i
invariant-loop-i l = take l.i l.a ≡ take l.i l.b
