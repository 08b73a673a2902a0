-- The entry goes from its key's place; where the key has none, nothing goes.
use Rattle.std.proofs.Common.{Ok, Err, ◌∙◌}
use Rattle.value_core.proofs.SortedPlaces.{map_found, map_lacks, map_stays, map_taken, map_without}
use Rattle.value_core.proofs.sorted.map_remove.Goals as goal

pub returns-in-Ok-clause-removed : goal.returns-in-Ok-clause-removed
returns-in-Ok-clause-removed c =
    c.remove-value.ensures.rest ∙ map_without c.args.entries.now c.args.key.now c.in-Ok.at c.requires
    (map_found c.as_slice.result.now c.args.entries.now c.args.key.now (Ok c.in-Ok.at) c.as_slice.ensures c.requires c.in-Ok.ensures.place)

pub returns-in-Ok-clause-told : goal.returns-in-Ok-clause-told
returns-in-Ok-clause-told c =
    map_taken c.args.entries.now c.args.key.now c.in-Ok.at c.remove-value.result c.requires
    (map_found c.as_slice.result.now c.args.entries.now c.args.key.now (Ok c.in-Ok.at) c.as_slice.ensures c.requires c.in-Ok.ensures.place)
    c.remove-value.ensures.item

pub returns-in-Err-clause-removed : goal.returns-in-Err-clause-removed
returns-in-Err-clause-removed c =
    map_stays c.args.entries.now c.args.key.now c.in-Err.field-0
    (map_found c.as_slice.result.now c.args.entries.now c.args.key.now (Err c.in-Err.field-0) c.as_slice.ensures c.requires c.in-Err.ensures.place)

pub returns-in-Err-clause-told : goal.returns-in-Err-clause-told
returns-in-Err-clause-told c =
    map_lacks c.args.entries.now c.args.key.now c.in-Err.field-0
    (map_found c.as_slice.result.now c.args.entries.now c.args.key.now (Err c.in-Err.field-0) c.as_slice.ensures c.requires c.in-Err.ensures.place)
