-- The touches so far are copied.
use Rattle.std.proofs.Common.{◌≡◌, take}
use Rattle.cell_names.proofs.footprint.copy_touches.Given as goal

abbrev pub invariant-loop-touch : goal.invariant-loop-touch
invariant-loop-touch l = l.copied.items ≡ take l.touch-index l.touches
