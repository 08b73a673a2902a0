use Rattle.std.proofs.Common.{◌≡◌, ◌++◌, ◌≤◌, ◌-◌, reverse, length}
use Rattle.michelson_machine.proofs.pile.Pile.set_aside.Given as goal

abbrev pub invariant-loop-self : goal.invariant-loop-self
invariant-loop-self g l = (l.fn.self ≡ reverse l.aside ++ l.self) × (length l.aside ≤ l.count)

abbrev pub decreases-loop-self : goal.decreases-loop-self
decreases-loop-self g l = l.count - length l.aside
