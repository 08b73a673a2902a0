-- What is left ascends where all ascends.
use Rattle.std.proofs.Common.{◌≡◌, ◌-◌, drop}
use Rattle.value_core.specs.Sound.{ascends}
use Rattle.value_core.proofs.soundness.ascend.Given as goal

abbrev pub invariant-loop-i : goal.invariant-loop-i
invariant-loop-i l = ascends l.items ≡ ascends (drop (l.i - 1) l.items)
