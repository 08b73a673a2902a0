use Rattle.std.proofs.Common.{◌≡◌, None}
use Rattle.edge_io.specs.Slots.{slot_at}
use Rattle.edge_io.proofs.SlotMaps.{Stands, held_marked, unwritten_marks, marks_there, held_filed, marked_written_there, no_marks_there}
use Rattle.edge_io.proofs.slots.write.Goals as goal

pub unreachable-requires : goal.unreachable-requires
unreachable-requires c =
    let none : slot_at c.args.slots.now.items c.args.name.now ≡ None = rw c.deref.ensures.value at (rw c.in_default.is at c.place_of.ensures.none) in
    absurd (rw (no_marks_there _ _ none) at c.requires)

pub returns-then-fails-clause-held : goal.returns-then-fails-clause-held
returns-then-fails-clause-held c =
    let here : Stands c.args.slots.now.items c.args.name.now c.in-Some.i c.index_mut-slot.result.now = record { at = rw c.deref.ensures.value at c.in-Some.ensures.found; is = c.index_mut-slot.ensures.value } in
    rw c.note_write_fault.ensures (held_marked here _)

pub returns-then-fails-clause-marked : goal.returns-then-fails-clause-marked
returns-then-fails-clause-marked c =
    let here : Stands c.args.slots.now.items c.args.name.now c.in-Some.i c.index_mut-slot.result.now = record { at = rw c.deref.ensures.value at c.in-Some.ensures.found; is = c.index_mut-slot.ensures.value } in
    rw c.note_write_fault.ensures (unwritten_marks here)

pub put-requires : goal.put-requires
put-requires c =
    let here : Stands c.args.slots.now.items c.args.name.now c.in-Some.i c.index_mut-slot.result.now = record { at = rw c.deref.ensures.value at c.in-Some.ensures.found; is = c.index_mut-slot.ensures.value } in
    rw (marks_there here) at c.requires

pub returns-clause-held : goal.returns-clause-held
returns-clause-held c =
    let here : Stands c.args.slots.now.items c.args.name.now c.in-Some.i c.index_mut-slot.result.now = record { at = rw c.deref.ensures.value at c.in-Some.ensures.found; is = c.index_mut-slot.ensures.value } in
    rw c.put.ensures (held_filed here c.args.bytes.now c.index_mut-slot.result.now.marks)

pub returns-clause-marked : goal.returns-clause-marked
returns-clause-marked c =
    let here : Stands c.args.slots.now.items c.args.name.now c.in-Some.i c.index_mut-slot.result.now = record { at = rw c.deref.ensures.value at c.in-Some.ensures.found; is = c.index_mut-slot.ensures.value } in
    rw c.put.ensures (marked_written_there here c.args.bytes.now)
