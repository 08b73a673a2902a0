use Rattle.std.proofs.Common.{◌≡◌, ◌++◌, length}
use Rattle.michelson_machine.proofs.items.in_a_pile.Given as goal

abbrev pub invariant-loop-item : goal.invariant-loop-item
invariant-loop-item l = l.items ++ l.pile ≡ l.fn.items

abbrev pub decreases-loop-item : goal.decreases-loop-item
decreases-loop-item l = length l.items
