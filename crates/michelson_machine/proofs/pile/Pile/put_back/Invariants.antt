use Rattle.std.proofs.Common.{◌≡◌, ◌++◌, reverse, length}
use Rattle.michelson_machine.proofs.pile.Pile.put_back.Given as goal

abbrev pub invariant-loop-item : goal.invariant-loop-item
invariant-loop-item g l = reverse l.aside ++ l.self ≡ reverse l.fn.aside ++ l.fn.self

abbrev pub decreases-loop-item : goal.decreases-loop-item
decreases-loop-item g l = length l.aside
