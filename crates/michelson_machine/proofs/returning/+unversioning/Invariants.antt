use Rattle.std.proofs.Common.{◌≡◌, map, take}
use Rattle.michelson_rules.specs.Returned.{unversioned}
use Rattle.michelson_machine.specs.Ends.{unversioned_entry}
use Rattle.michelson_machine.proofs.returning.+unversioning.Given as goal

abbrev pub invariant-unversioned_all-loop-item : goal.invariant-unversioned_all-loop-item
invariant-unversioned_all-loop-item l = l.made ≡ map unversioned (take l.item-index l.items)

abbrev pub invariant-unversioned_entries-loop-entry : goal.invariant-unversioned_entries-loop-entry
invariant-unversioned_entries-loop-entry l = l.made ≡ map unversioned_entry (take l.entry-index l.entries)
