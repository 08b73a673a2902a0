-- The value stands at the place of its key.
use Rattle.value_core.proofs.SortedPlaces.{map_at, map_lacks}
use Rattle.value_core.proofs.sorted.map_get.Goals as goal

pub returns-in-Ok : goal.returns-in-Ok
returns-in-Ok c = map_at c.args.entries.now c.args.key.now c.in-Ok.at c.index-entries-at.result c.requires (c.in-Ok.ensures.place c.requires)

pub returns-in-Err : goal.returns-in-Err
returns-in-Err c = map_lacks c.args.entries.now c.args.key.now c.in-Err.field-0 (c.in-Err.ensures.place c.requires)
