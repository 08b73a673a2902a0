-- What the calls of a store do.
use Rattle.std.specs.Prelude.{◌≡◌, Bool, true, Result, Err, IfOk, OnErr}
use Rattle.cell_names.specs.declared.cell.Cell.{Cell}
use Rattle.cell_names.specs.declared.cell.Cell.TheVariants as cell
use Rattle.cell_names.specs.declared.access.Access.{Access}
use Rattle.cell_names.specs.declared.access.Reply.{Reply}
use Rattle.cell_names.specs.declared.access.Undo.{Undo}
use Rattle.cell_names.specs.declared.access.Undo.TheVariants as undo
use Rattle.cell_names.specs.declared.store.StoreEnd.{StoreEnd}
use Rattle.cell_names.specs.declared.store.StoreEnd.TheVariants.{Outside}
use Rattle.cell_names.specs.Effects.{cell_of, reply_to, after, flight_after, undo_of, undone, flight_undone}
use Rattle.cell_names.specs.Conditions.{Seen, Lends}

-- neither call changes how cells are lent or what is fit, or takes a slot away
pub record Stays (old new : Seen) : Type 0 where
  pub lent : (c : Cell) → new.lent c ≡ old.lent c
  pub fits : (a : Access) → new.fits a ≡ old.fits a
  pub slots : (c : Cell) → old.slots c ≡ true → new.slots c ≡ true

-- cells and flight are as before
pub record IsAsBefore (old new : Seen) : Type 0 where
  pub cells : new.cells ≡ old.cells
  pub flight : new.flight ≡ old.flight

-- the cell that an undo names has a slot
abbrev pub HasSlot : (Cell → Bool) → Undo → Type 0
HasSlot slots undo.Nothing = Unit {0}
HasSlot slots (undo.Put c v) = slots c ≡ true
HasSlot slots (undo.Uncredit a n) = slots (cell.Balance a) ≡ true
HasSlot slots (undo.Undebit a n) = slots (cell.Balance a) ≡ true

-- an access that is done: its reply, its undo, and what it leaves
pub record Did (old : Seen) (a : Access) (r : Reply) (u : Undo) (new : Seen) : Type 0 where
  pub lent : Lends old a
  pub reply : r ≡ reply_to a old.cells
  pub undo : u ≡ undo_of a old.cells
  pub cells : new.cells ≡ after a old.cells
  pub flight : new.flight ≡ flight_after a old.cells old.flight
  pub slot : HasSlot new.slots u

-- an access is done, or refused because its cell isn't lent so, or memory runs out; then cells and flight are as before
pub record Accesses (old : Seen) (a : Access) (result : Result (Reply × Undo) StoreEnd) (new : Seen) : Type 0 where
  pub stays : Stays old new
  pub did : IfOk result (λ x. Did old a x.0 x.1 new)
  pub failed : OnErr result (IsAsBefore old new)
  pub outside : (c : Cell) → result ≡ Err (Outside c) → (c ≡ cell_of a) × (¬ Lends old a)

-- what an undo does
pub record Undoes (old : Seen) (u : Undo) (new : Seen) : Type 0 where
  pub stays : Stays old new
  pub cells : new.cells ≡ undone u old.cells
  pub flight : new.flight ≡ flight_undone u old.flight
