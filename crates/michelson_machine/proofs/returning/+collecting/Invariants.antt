use Rattle.std.proofs.Common.{◌≡◌, ◌++◌, take}
use Rattle.std.specs.List.{flat_map}
use Rattle.michelson_rules.specs.Returned.{big_maps_in}
use Rattle.michelson_machine.specs.Ends.{big_maps_of_entry}
use Rattle.michelson_machine.proofs.returning.+collecting.Given as goal

abbrev pub invariant-collect_all-loop-item : goal.invariant-collect_all-loop-item
invariant-collect_all-loop-item l = l.out ≡ l.fn.out ++ flat_map big_maps_in (take l.item-index l.items)

abbrev pub invariant-collect_entries-loop-entry : goal.invariant-collect_entries-loop-entry
invariant-collect_entries-loop-entry l = l.out ≡ l.fn.out ++ flat_map big_maps_of_entry (take l.entry-index l.entries)
