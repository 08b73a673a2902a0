use Rattle.std.proofs.Common.{◌≡◌, take}
use Rattle.value_core.specs.Sorted.{keys_of}
use Rattle.michelson_machine.proofs.items.copies.Given as goal

abbrev pub invariant-loop-entry : goal.invariant-loop-entry
invariant-loop-entry l = l.keys ≡ keys_of (take l.entry-index l.entries)
