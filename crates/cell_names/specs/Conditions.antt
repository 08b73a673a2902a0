-- What a store is seen as, and when its calls may be made.
use Rattle.std.specs.Prelude.{◌≡◌, ◌≢◌, ℕ, ◌≤◌, Bool, true, List, Option, Some, None}
use Rattle.cell_names.specs.declared.cell.Cell.{Cell}
use Rattle.cell_names.specs.declared.cell.Cell.TheVariants as cell
use Rattle.cell_names.specs.declared.mode.Mode.{Mode}
use Rattle.cell_names.specs.declared.access.Access.{Access}
use Rattle.cell_names.specs.declared.access.Access.TheVariants as access
use Rattle.cell_names.specs.declared.access.Undo.{Undo}
use Rattle.cell_names.specs.declared.access.Undo.TheVariants as undo
use Rattle.cell_names.specs.Modes.{joined}
use Rattle.cell_names.specs.Contents.{Contents, balance}
use Rattle.cell_names.specs.Effects.{cell_of, mode_needed}

-- what stands in cells, what is in flight, the mode in which each cell is lent, which accesses are fit, which cells have a slot
pub record Seen : Type 0 where
  pub cells : Contents
  pub flight : ℕ
  pub lent : Cell → Option Mode
  pub fits : Access → Bool
  pub slots : Cell → Bool

-- ---- conditions of an access

-- a cell is lent in a needed mode where the join of the lent mode with the needed one is the lent mode
abbrev pub IsLentIn : Option Mode → Mode → Type 0
IsLentIn None needed = ⊥
IsLentIn (Some held) needed = joined held needed ≡ held

-- the store lends the cell that the access touches, in the mode that it needs
abbrev pub Lends : Seen → Access → Type 0
Lends seen a = IsLentIn (seen.lent (cell_of a)) (mode_needed a)

-- a cell that may be written: a storage or an entry
abbrev pub IsWritable : Cell → Type 0
IsWritable (cell.Balance address) = ⊥
IsWritable (cell.Storage address) = Unit {0}
IsWritable (cell.Entry address place key) = Unit {0}

-- a write names a storage or an entry
abbrev pub NamesWritable : Access → Type 0
NamesWritable (access.Read c) = Unit {0}
NamesWritable (access.Write c v) = IsWritable c
NamesWritable (access.Credit a n) = Unit {0}
NamesWritable (access.Debit a n) = Unit {0}

-- a credit is at most what is in flight
abbrev pub IsCovered : ℕ → Access → Type 0
IsCovered f (access.Read c) = Unit {0}
IsCovered f (access.Write c v) = Unit {0}
IsCovered f (access.Credit a n) = n ≤ f
IsCovered f (access.Debit a n) = Unit {0}

-- the condition of an access
pub record CanAccess (seen : Seen) (a : Access) : Type 0 where
  pub names : NamesWritable a
  pub fits : seen.fits a ≡ true
  pub covered : IsCovered seen.flight a

-- ---- conditions of an undo

-- some credit of the account is fit
abbrev pub MayBeCredited : Seen → List ℕ → Type 0
MayBeCredited seen address = (n : ℕ) × (seen.fits (access.Credit address n) ≡ true)

-- an amount above 0 goes back to an account that a fit credit may name, and that has a slot
pub record CanReturn (seen : Seen) (address : List ℕ) (n : ℕ) : Type 0 where
  pub credited : n ≢ 0 → MayBeCredited seen address
  pub slot : n ≢ 0 → seen.slots (cell.Balance address) ≡ true

-- what is put is fit as a write, and its cell has a slot
pub record CanPut (seen : Seen) (write : Access) : Type 0 where
  pub names : NamesWritable write
  pub fits : seen.fits write ≡ true
  pub slot : seen.slots (cell_of write) ≡ true

-- the amounts that an undo needs are there
abbrev pub HasAmount : Contents → ℕ → Undo → Type 0
HasAmount m f undo.Nothing = Unit {0}
HasAmount m f (undo.Put c v) = Unit {0}
HasAmount m f (undo.Uncredit a n) = n ≤ balance m a
HasAmount m f (undo.Undebit a n) = n ≤ f

-- what an undo changes may be changed so
abbrev pub MayChange : Seen → Undo → Type 0
MayChange seen undo.Nothing = Unit {0}
MayChange seen (undo.Put c v) = CanPut seen (access.Write c v)
MayChange seen (undo.Uncredit a n) = Unit {0}
MayChange seen (undo.Undebit a n) = CanReturn seen a n

-- the condition of an undo
pub record CanUndo (seen : Seen) (u : Undo) : Type 0 where
  pub amount : HasAmount seen.cells seen.flight u
  pub change : MayChange seen u
