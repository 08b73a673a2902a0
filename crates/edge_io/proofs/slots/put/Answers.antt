use Rattle.std.proofs.Common.{◌≡◌, length, None, refl}
use Rattle.edge_io.specs.Shelf.{roomy}
use Rattle.edge_io.specs.Slots.{slot_at}
use Rattle.edge_io.proofs.SlotMaps.{Stands, held_filed, roomy_filed, marks_at_none, held_put, marked_added}
use Rattle.edge_io.proofs.slots.put.Goals as goal

pub returns-in_ok-make_room-in-Some-clause-held : goal.returns-in_ok-make_room-in-Some-clause-held
returns-in_ok-make_room-in-Some-clause-held c =
    let here : Stands c.args.slots.now.items c.args.name.now c.in-Some.i c.index_mut-slot.result.now = record { at = rw c.deref.ensures.value at c.in-Some.ensures.found; is = c.index_mut-slot.ensures.value } in
    rw (c.put.ensures, c.in_ok-make_room-in-Some.ensures.made) (held_filed here c.args.bytes.now (roomy c.index_mut-slot.result.now.marks (length c.args.bytes.now)))

pub returns-in_ok-make_room-in-Some-clause-marked : goal.returns-in_ok-make_room-in-Some-clause-marked
returns-in_ok-make_room-in-Some-clause-marked c =
    let here : Stands c.args.slots.now.items c.args.name.now c.in-Some.i c.index_mut-slot.result.now = record { at = rw c.deref.ensures.value at c.in-Some.ensures.found; is = c.index_mut-slot.ensures.value } in
    rw (c.put.ensures, c.in_ok-make_room-in-Some.ensures.made) (roomy_filed here c.args.bytes.now)

pub returns-in_ok-add-in-None-clause-held : goal.returns-in_ok-add-in-None-clause-held
returns-in_ok-add-in-None-clause-held c =
    held_put _ _ _ _ (rw (c.put-in-None.ensures, c.in_ok-make_room-in-None.ensures.made, c.in_ok-slot-in-None.ensures) at c.in_ok-add-in-None.ensures.added) c.args.bytes.now refl

pub returns-in_ok-add-in-None-clause-marked : goal.returns-in_ok-add-in-None-clause-marked
returns-in_ok-add-in-None-clause-marked c =
    let none : slot_at c.args.slots.now.items c.args.name.now ≡ None = rw c.deref.ensures.value at c.in-None.ensures.none in
    rw (marks_at_none _ _ none) (marked_added _ _ none _ _ (rw (c.put-in-None.ensures, c.in_ok-make_room-in-None.ensures.made, c.in_ok-slot-in-None.ensures) at c.in_ok-add-in-None.ensures.added))
