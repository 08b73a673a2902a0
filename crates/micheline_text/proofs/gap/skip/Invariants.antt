-- What is seen, and what is left.
use Rattle.std.proofs.Common.{◌≡◌, drop, length}
use Rattle.micheline_text.specs.Gaps.{gap_from, ModeWithin}
use Rattle.micheline_text.specs.declared.gap.Mode.TheVariants.{Between}
use Rattle.micheline_text.proofs.gap.skip.Given as goal

abbrev pub invariant-loop-i : goal.invariant-loop-i
invariant-loop-i l = (gap_from l.mode (drop l.i l.bytes) ≡ gap_from Between l.bytes) × ModeWithin (length l.bytes) l.mode
