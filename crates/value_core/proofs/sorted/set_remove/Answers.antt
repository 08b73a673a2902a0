-- The key goes from its place; where it has none, nothing goes.
use Rattle.std.proofs.Common.{Ok, Err, ◌∙◌}
use Rattle.value_core.proofs.SortedPlaces.{set_found, set_stays, set_told, set_without}
use Rattle.value_core.proofs.sorted.set_remove.Goals as goal

pub returns-in-Ok-clause-removed : goal.returns-in-Ok-clause-removed
returns-in-Ok-clause-removed c =
    c.remove.ensures.rest ∙ set_without c.args.items.now c.args.key.now c.in-Ok.at c.requires
    (set_found c.as_slice.result.now c.args.items.now c.args.key.now (Ok c.in-Ok.at) c.as_slice.ensures c.requires c.in-Ok.ensures.place)

pub returns-in-Ok-clause-told : goal.returns-in-Ok-clause-told
returns-in-Ok-clause-told c =
    set_told c.args.items.now c.args.key.now (Ok c.in-Ok.at)
    (set_found c.as_slice.result.now c.args.items.now c.args.key.now (Ok c.in-Ok.at) c.as_slice.ensures c.requires c.in-Ok.ensures.place)

pub returns-in-Err-clause-removed : goal.returns-in-Err-clause-removed
returns-in-Err-clause-removed c =
    set_stays c.args.items.now c.args.key.now c.in-Err.field-0
    (set_found c.as_slice.result.now c.args.items.now c.args.key.now (Err c.in-Err.field-0) c.as_slice.ensures c.requires c.in-Err.ensures.place)

pub returns-in-Err-clause-told : goal.returns-in-Err-clause-told
returns-in-Err-clause-told c =
    set_told c.args.items.now c.args.key.now (Err c.in-Err.field-0)
    (set_found c.as_slice.result.now c.args.items.now c.args.key.now (Err c.in-Err.field-0) c.as_slice.ensures c.requires c.in-Err.ensures.place)
