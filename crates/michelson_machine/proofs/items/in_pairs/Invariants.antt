use Rattle.std.proofs.Common.{◌≡◌, ◌++◌, length, map}
use Rattle.michelson_rules.specs.Bodies.{entry_pair}
use Rattle.michelson_machine.proofs.items.in_pairs.Given as goal

abbrev pub invariant-loop-entry : goal.invariant-loop-entry
invariant-loop-entry l = map entry_pair l.entries ++ l.pile ≡ map entry_pair l.fn.entries

abbrev pub decreases-loop-entry : goal.decreases-loop-entry
decreases-loop-entry l = length l.entries
