use Rattle.std.proofs.Common.{◌≡◌, ℕ, Bool, true, false, None, Result, Ok, Err, refl, sym, ap, subst}
use Rattle.std.specs.Prelude.{◌||◌, ◌&&◌, is_some}
use Rattle.std.specs.Result.{IsErrAnd}
use Rattle.std.specs.Global.{Vec}
use Rattle.edge_io.specs.Shelf.{FailsWhere}
use Rattle.edge_io.specs.declared.files.ReadEnd.{ReadEnd}
use Rattle.edge_io.specs.declared.files.ReadEnd.TheVariants as ends
use Rattle.edge_io.specs.Slots.{slot_at}
use Rattle.edge_io.proofs.SlotMaps.{Stands, file_there, held_marked, read_marks, no_file, no_marks_there, marks_at_none, held_added, marked_added}
use Rattle.edge_io.proofs.slots.read.Goals as goal

or-true : (b : Bool) → b || true ≡ true
or-true true = refl
or-true false = refl

-- with marks a read that is to fail takes no memory
for_any : (due known : Bool) (ended : Result (Vec ℕ) ReadEnd) → FailsWhere due true ended → FailsWhere due known ended
for_any due known (Ok v) h = h
for_any due known (Err ends.Failed) h = h
for_any due known (Err ends.TooLong) h = h
for_any true known (Err ends.NoMemory) h = absurd cc
for_any false known (Err ends.NoMemory) h = refl

-- a name without marks
unknown : (due known : Bool) → known ≡ false → (due && known) ≡ false
unknown true known e = e
unknown false known e = refl

wants_memory : (due known : Bool) (ended : Result (Vec ℕ) ReadEnd) → IsErrAnd ended (λ e. e ≡ ends.NoMemory) → known ≡ false → FailsWhere due known ended
wants_memory due known (Ok v) told none = absurd told
wants_memory due known (Err e) told none = subst (λ (x : ReadEnd). FailsWhere due known (Err x)) (sym told) (unknown due known none)

pub returns-in-Some-clause-fails : goal.returns-in-Some-clause-fails
returns-in-Some-clause-fails c =
    let here : Stands c.args.slots.now.items c.args.name.now c.in-Some.i c.index_mut-slot.result.now = record { at = rw c.deref.ensures.value at c.in-Some.ensures.found; is = c.index_mut-slot.ensures.value } in
    rw (file_there here) (for_any _ _ c.read.result c.read.ensures.fails)

pub returns-in-Some-clause-bytes : goal.returns-in-Some-clause-bytes
returns-in-Some-clause-bytes c =
    let here : Stands c.args.slots.now.items c.args.name.now c.in-Some.i c.index_mut-slot.result.now = record { at = rw c.deref.ensures.value at c.in-Some.ensures.found; is = c.index_mut-slot.ensures.value } in
    simp (file_there here) c.read.ensures.bytes

pub returns-in-Some-clause-long : goal.returns-in-Some-clause-long
returns-in-Some-clause-long c =
    let here : Stands c.args.slots.now.items c.args.name.now c.in-Some.i c.index_mut-slot.result.now = record { at = rw c.deref.ensures.value at c.in-Some.ensures.found; is = c.index_mut-slot.ensures.value } in
    rw (file_there here) c.read.ensures.long

pub returns-in-Some-clause-held : goal.returns-in-Some-clause-held
returns-in-Some-clause-held c =
    let here : Stands c.args.slots.now.items c.args.name.now c.in-Some.i c.index_mut-slot.result.now = record { at = rw c.deref.ensures.value at c.in-Some.ensures.found; is = c.index_mut-slot.ensures.value } in
    rw c.read.ensures.then (held_marked here _)

pub returns-in-Some-clause-marked : goal.returns-in-Some-clause-marked
returns-in-Some-clause-marked c =
    let here : Stands c.args.slots.now.items c.args.name.now c.in-Some.i c.index_mut-slot.result.now = record { at = rw c.deref.ensures.value at c.in-Some.ensures.found; is = c.index_mut-slot.ensures.value } in
    rw c.read.ensures.then (read_marks here c.read.result)

pub returns-in_err-slot-in-None-clause-fails : goal.returns-in_err-slot-in-None-clause-fails
returns-in_err-slot-in-None-clause-fails c =
    let none : slot_at c.args.slots.now.items c.args.name.now ≡ None = rw c.deref.ensures.value at c.in-None.ensures.none in
    wants_memory _ _ c.from_residual.result c.from_residual.ensures.1 (ap is_some (no_marks_there _ _ none))

pub returns-in_err-add-in-None-clause-fails : goal.returns-in_err-add-in-None-clause-fails
returns-in_err-add-in-None-clause-fails c =
    let none : slot_at c.args.slots.now.items c.args.name.now ≡ None = rw c.deref.ensures.value at c.in-None.ensures.none in
    wants_memory _ _ c.from_residual-in_err-add-in-None.result c.from_residual-in_err-add-in-None.ensures.1 (ap is_some (no_marks_there _ _ none))

pub returns-in_ok-add-in-None-clause-fails : goal.returns-in_ok-add-in-None-clause-fails
returns-in_ok-add-in-None-clause-fails c =
    let none : slot_at c.args.slots.now.items c.args.name.now ≡ None = rw c.deref.ensures.value at c.in-None.ensures.none in
    rw (no_file _ _ none) (or-true c.args.fails)

pub returns-in_ok-add-in-None-clause-held : goal.returns-in_ok-add-in-None-clause-held
returns-in_ok-add-in-None-clause-held c =
    let none : slot_at c.args.slots.now.items c.args.name.now ≡ None = rw c.deref.ensures.value at c.in-None.ensures.none in
    held_added _ _ none _ _ (rw (c.note_read_fault.ensures, c.in_ok-slot-in-None.ensures) at c.in_ok-add-in-None.ensures.added)

pub returns-in_ok-add-in-None-clause-marked : goal.returns-in_ok-add-in-None-clause-marked
returns-in_ok-add-in-None-clause-marked c =
    let none : slot_at c.args.slots.now.items c.args.name.now ≡ None = rw c.deref.ensures.value at c.in-None.ensures.none in
    rw (marks_at_none _ _ none) (marked_added _ _ none _ _ (rw (c.note_read_fault.ensures, c.in_ok-slot-in-None.ensures) at c.in_ok-add-in-None.ensures.added))
