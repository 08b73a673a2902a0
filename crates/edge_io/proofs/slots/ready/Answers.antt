use Rattle.std.proofs.Common.{◌≡◌, None}
use Rattle.std.proofs.lemmas.Result.{on_ok_weaker}
use Rattle.edge_io.specs.Slots.{slot_at}
use Rattle.edge_io.proofs.SlotMaps.{Stands, held_room, room_marks, marks_at_none, held_added, marked_added}
use Rattle.edge_io.proofs.slots.ready.Goals as goal

pub returns-in-Some-clause-held : goal.returns-in-Some-clause-held
returns-in-Some-clause-held c =
    let here : Stands c.args.slots.now.items c.args.name.now c.in-Some.i c.index_mut-slot.result.now = record { at = rw c.deref.ensures.value at c.in-Some.ensures.found; is = c.index_mut-slot.ensures.value } in
    held_room here c.args.n c.make_room.result c.make_room.new.self c.make_room.ensures.made c.make_room.ensures.unchanged

pub returns-in-Some-clause-made : goal.returns-in-Some-clause-made
returns-in-Some-clause-made c =
    let here : Stands c.args.slots.now.items c.args.name.now c.in-Some.i c.index_mut-slot.result.now = record { at = rw c.deref.ensures.value at c.in-Some.ensures.found; is = c.index_mut-slot.ensures.value } in
    on_ok_weaker c.make_room.result (λ e. rw e (room_marks here c.args.n)) c.make_room.ensures.made

pub returns-in_ok-add-in-None-clause-held : goal.returns-in_ok-add-in-None-clause-held
returns-in_ok-add-in-None-clause-held c =
    let none : slot_at c.args.slots.now.items c.args.name.now ≡ None = rw c.deref.ensures.value at c.in-None.ensures.none in
    held_added _ _ none _ _ (rw (c.in_ok-make_room-in-None.ensures.made, c.in_ok-slot-in-None.ensures) at c.in_ok-add-in-None.ensures.added)

pub returns-in_ok-add-in-None-clause-made : goal.returns-in_ok-add-in-None-clause-made
returns-in_ok-add-in-None-clause-made c =
    let none : slot_at c.args.slots.now.items c.args.name.now ≡ None = rw c.deref.ensures.value at c.in-None.ensures.none in
    rw (marks_at_none _ _ none) (marked_added _ _ none _ _ (rw (c.in_ok-make_room-in-None.ensures.made, c.in_ok-slot-in-None.ensures) at c.in_ok-add-in-None.ensures.added))
