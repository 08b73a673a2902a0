use Rattle.std.proofs.Common.{◌≡◌, ◌++◌, length}
use Rattle.michelson_machine.specs.Resume.{entries_of}
use Rattle.michelson_machine.proofs.items.entries_of.Given as goal

abbrev pub invariant-entries : goal.invariant-entries
invariant-entries l = l.entries ++ entries_of l.keys l.values ≡ entries_of l.fn.keys l.fn.done

abbrev pub decreases-entries : goal.decreases-entries
decreases-entries l = length l.keys
