-- A key that is there changes nothing, and another goes into its gap.
use Rattle.std.proofs.Common.{Ok, Err, ◌∙◌}
use Rattle.value_core.proofs.SortedPlaces.{set_found}
use Rattle.value_core.proofs.InsertionLemmas.{set_inserted, set_kept, set_new, set_old}
use Rattle.value_core.proofs.inserting.set_insert.Goals as goal

pub returns-in-Ok-clause-inserted : goal.returns-in-Ok-clause-inserted
returns-in-Ok-clause-inserted c =
    set_kept c.args.items.now c.args.key c.in-Ok.field-0 c.requires
    (set_found c.as_slice.result.now c.args.items.now c.args.key (Ok c.in-Ok.field-0) c.as_slice.ensures c.requires c.in-Ok.ensures.place)

pub returns-in-Ok-clause-told : goal.returns-in-Ok-clause-told
returns-in-Ok-clause-told c =
    set_old c.args.items.now c.args.key c.in-Ok.field-0
    (set_found c.as_slice.result.now c.args.items.now c.args.key (Ok c.in-Ok.field-0) c.as_slice.ensures c.requires c.in-Ok.ensures.place)

pub returns-in_ok-insert_at-in-Err-clause-inserted : goal.returns-in_ok-insert_at-in-Err-clause-inserted
returns-in_ok-insert_at-in-Err-clause-inserted c =
    c.in_ok-insert_at-in-Err.ensures.inserted ∙ set_inserted c.args.items.now c.args.key c.in-Err.at
    (set_found c.as_slice.result.now c.args.items.now c.args.key (Err c.in-Err.at) c.as_slice.ensures c.requires c.in-Err.ensures.place)

pub returns-in_ok-insert_at-in-Err-clause-told : goal.returns-in_ok-insert_at-in-Err-clause-told
returns-in_ok-insert_at-in-Err-clause-told c =
    set_new c.args.items.now c.args.key c.in-Err.at
    (set_found c.as_slice.result.now c.args.items.now c.args.key (Err c.in-Err.at) c.as_slice.ensures c.requires c.in-Err.ensures.place)
