-- What is seen, and what is left.
use Rattle.std.proofs.Common.{◌≡◌, ◌≤◌, drop, length}
use Rattle.ligo_tokens.specs.Gaps.{gap_from, opened, ModeWithin}
use Rattle.ligo_tokens.specs.declared.gap.Mode.TheVariants.{Between}
use Rattle.ligo_tokens.proofs.gap.skip.Given as goal

abbrev pub invariant-loop-i : goal.invariant-loop-i
invariant-loop-i l = (gap_from l.mode (drop l.i l.bytes) ≡ gap_from Between l.bytes) × ModeWithin (length l.bytes) l.mode × (opened l.mode ≤ l.i)
