use Rattle.std.proofs.Common.{◌≡◌, ◌++◌, Option, length, map, reverse}
use Rattle.value_core.specs.declared.val.Val.{Val}
use Rattle.michelson_machine.proofs.returning.changes_in.Given as goal

abbrev pub invariant-loop-key : goal.invariant-loop-key
invariant-loop-key l = map (λ (c : Val × Option Val). (l.place, c.0, c.1)) l.changes ++ reverse l.made.items ≡ map (λ (c : Val × Option Val). (l.place, c.0, c.1)) l.initial.changes

abbrev pub decreases-loop-key : goal.decreases-loop-key
decreases-loop-key l = length l.changes
