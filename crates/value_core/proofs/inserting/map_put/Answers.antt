-- A key that is there gets the value at its place, and another goes into its gap.
use Rattle.std.proofs.Common.{Result, Ok, Err, OnOk, ◌∙◌}
use Rattle.value_core.proofs.SortedPlaces.{map_found}
use Rattle.value_core.proofs.InsertionLemmas.{map_changed, map_inserted}
use Rattle.value_core.proofs.inserting.map_put.Goals as goal

on_ok : {T E P Q : Type 0} (r : Result T E) → (P → Q) → OnOk r P → OnOk r Q
on_ok (Ok x) f p = f p
on_ok (Err e) f p = p

pub returns-in-Ok-clause-written : goal.returns-in-Ok-clause-written
returns-in-Ok-clause-written c =
    c.set.ensures ∙ map_changed c.args.entries.now c.args.key c.args.value c.in-Ok.at c.requires
    (map_found c.as_slice.result.now c.args.entries.now c.args.key (Ok c.in-Ok.at) c.as_slice.ensures c.requires c.in-Ok.ensures.place)

pub returns-in-Err-clause-written : goal.returns-in-Err-clause-written
returns-in-Err-clause-written c =
    on_ok c.insert_at.result (λ is. is ∙ map_inserted c.args.entries.now c.args.key c.args.value c.in-Err.at
    (map_found c.as_slice.result.now c.args.entries.now c.args.key (Err c.in-Err.at) c.as_slice.ensures c.requires c.in-Err.ensures.place)) c.insert_at.ensures.inserted
