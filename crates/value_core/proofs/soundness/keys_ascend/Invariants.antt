-- What is left ascends where all ascends.
use Rattle.std.proofs.Common.{◌≡◌, ◌-◌, drop, map}
use Rattle.value_core.specs.Sound.{ascends}
use Rattle.value_core.proofs.soundness.keys_ascend.Given as goal

abbrev pub invariant-loop-i : goal.invariant-loop-i
invariant-loop-i l = ascends (map (λ e. e.0) l.entries) ≡ ascends (map (λ e. e.0) (drop (l.i - 1) l.entries))
