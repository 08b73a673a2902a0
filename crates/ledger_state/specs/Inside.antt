-- What functions inside promise each other: the reason of an addition at its place, and what one cell more leaves.
use Rattle.std.specs.Prelude.{◌≡◌, ℕ, true, List, Option, Ok}
use Rattle.std.specs.Ordering.{is_lt}
use Rattle.std.specs.List.{list_all}
use Rattle.std.specs.FinMap.{entries, insert}
use Rattle.byte_fields.specs.Readers.{Reader}
use Rattle.value_core.specs.declared.val.Val.{Val}
use Rattle.cell_names.specs.declared.cell.Cell.{Cell}
use Rattle.cell_names.specs.Cells.{cell_cmp}
use Rattle.cell_names.specs.Contents.{Contents}
use Rattle.cell_names.specs.Reading.{is_above}
use Rattle.cell_names.specs.Supply.{supply}
use Rattle.byte_fields.specs.declared.fault.ReadStop.{ReadStop}
use Rattle.byte_fields.specs.declared.fault.ReadStop.TheVariants as stops
use Rattle.ledger_cells.specs.LedgerCells.{LedgerCells}
use Rattle.ledger_cells.specs.declared.fault.AddEnd.{AddEnd}
use Rattle.ledger_cells.specs.declared.fault.AddEnd.TheVariants as ends
use Rattle.ledger_state.specs.declared.fault.BuildFault.{BuildFault}
use Rattle.ledger_state.specs.declared.fault.BuildFault.TheVariants as faults
use Rattle.ledger_state.specs.Reading.{Before}

-- the reason, told at a place
abbrev pub told_at : ℕ → AddEnd → BuildFault
told_at at ends.Misfit = faults.Misfit at
told_at at ends.Twice = faults.Twice at
told_at at ends.TooMuch = faults.TooMuch at
told_at at ends.NoMemory = faults.NoMemory

-- where reading stops at it, with so many bytes left at the value
abbrev pub stop_at : ℕ → AddEnd → ReadStop
stop_at left ends.Misfit = stops.Left left
stop_at left ends.Twice = stops.Left left
stop_at left ends.TooMuch = stops.Left left
stop_at left ends.NoMemory = stops.NoMemory

-- a value was read for the cell, and the cell was added with it
pub record IsReadInto (read : Reader (Cell × Val)) (bytes : List ℕ) (old : LedgerCells) (c : Cell) (new : LedgerCells) (rest : List ℕ) : Type 0 where
  pub value : Val
  pub was : read bytes ≡ Ok ((c, value), rest)
  pub book : new.book ≡ old.book
  pub cells : new.cells ≡ insert old.cells c value
  pub flight : new.flight ≡ old.flight

-- what stands before the next cell, where these cells stand and this one is the last
abbrev pub before : Option Cell → Contents → Before
before last m = record { last = last; supply = supply m }

-- each cell above the last one is above all that stand
pub record IsLast (last : Option Cell) (m : Contents) : Type 0 where
  pub below : (c : Cell) → is_above last c ≡ true → list_all (λ e. is_lt (cell_cmp e.0 c)) (entries m) ≡ true
