-- What is true of accesses and undos, whatever the store.
use Rattle.std.specs.Prelude.{◌≡◌, ℕ, ◌+◌, false}
use Rattle.std.specs.FinMap.{get}
use Rattle.cell_names.specs.declared.access.Access.{Access}
use Rattle.cell_names.specs.declared.access.Undo.{Undo}
use Rattle.cell_names.specs.declared.access.Undo.TheVariants as undo
use Rattle.cell_names.specs.Modes.{conflicts}
use Rattle.cell_names.specs.Contents.{Contents}
use Rattle.cell_names.specs.Supply.{supply}
use Rattle.cell_names.specs.Effects.{cell_of, mode_needed, reply_to, after, flight_after, undo_of, undone, flight_undone}
use Rattle.cell_names.specs.Conditions.{IsWritable, HasAmount}

-- its undo takes the access back: cells and flight are as before, and the amounts that it needs are there
pub record IsTakenBack (a : Access) (m : Contents) (f : ℕ) : Type 0 where
  pub cells : undone (undo_of a m) (after a m) ≡ m
  pub flight : flight_undone (undo_of a m) (flight_after a m f) ≡ f
  pub amount : HasAmount (after a m) (flight_after a m f) (undo_of a m)

-- what two contents make of an access is the same
pub record GivesSame (a : Access) (m n : Contents) : Type 0 where
  pub reply : reply_to a m ≡ reply_to a n
  pub undo : undo_of a m ≡ undo_of a n
  pub left : get (after a m) (cell_of a) ≡ get (after a n) (cell_of a)
  pub flight : (f : ℕ) → flight_after a m f ≡ flight_after a n f

-- two accesses don't conflict: they touch different cells, or one cell in modes that don't conflict
abbrev pub AreApart : Access → Access → Type 0
AreApart a b = cell_of a ≡ cell_of b → conflicts (mode_needed a) (mode_needed b) ≡ false

-- one access and then another leaves what the other order leaves, and the second is answered as if it came first
pub record MayBeExchanged (a b : Access) (m : Contents) : Type 0 where
  pub cells : after b (after a m) ≡ after a (after b m)
  pub reply : reply_to b (after a m) ≡ reply_to b m
  pub undo : undo_of b (after a m) ≡ undo_of b m

-- money is neither made nor lost: the supply with what is in flight stays
abbrev pub KeepsMoney : Contents → ℕ → Contents → ℕ → Type 0
KeepsMoney m f m' f' = supply m' + f' ≡ supply m + f

-- what is put is a storage or an entry
abbrev pub PutsWritable : Undo → Type 0
PutsWritable undo.Nothing = Unit {0}
PutsWritable (undo.Put c v) = IsWritable c
PutsWritable (undo.Uncredit a n) = Unit {0}
PutsWritable (undo.Undebit a n) = Unit {0}
