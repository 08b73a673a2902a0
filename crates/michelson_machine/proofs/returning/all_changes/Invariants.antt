use Rattle.std.proofs.Common.{◌≡◌, take}
use Rattle.std.specs.List.{flat_map}
use Rattle.michelson_rules.specs.Returned.{changes_in}
use Rattle.michelson_machine.proofs.returning.all_changes.Given as goal

abbrev pub invariant-loop-map : goal.invariant-loop-map
invariant-loop-map l = l.all.items ≡ flat_map (changes_in l.versions) (take l.map-index l.maps)
