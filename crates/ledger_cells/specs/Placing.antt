-- When a cell may be added, and what is told where it may not.
use Rattle.std.specs.Prelude.{◌≡◌, ◌+◌, ◌^◌, true, not, nat_le, if◌then◌else◌, Option, Some, None}
use Rattle.std.specs.FinMap.{insert, contains_key}
use Rattle.std.specs.FinSet.{contains}
use Rattle.value_core.specs.declared.val.Val.{Val}
use Rattle.cell_names.specs.declared.cell.Cell.{Cell}
use Rattle.cell_names.specs.Supply.{money_of}
use Rattle.code_book.specs.Fits.{fits}
use Rattle.ledger_cells.specs.declared.fault.AddEnd.{AddEnd}
use Rattle.ledger_cells.specs.declared.fault.AddEnd.TheVariants.{Misfit, Twice, TooMuch, NoMemory}
use Rattle.ledger_cells.specs.LedgerCells.{LedgerCells, money}

-- the first of the three reasons for which a cell isn't added, in this order
abbrev pub misplaced : LedgerCells → Cell → Val → Option AddEnd
misplaced s c v =
    if not (fits s.book c v) then Some Misfit else
    if contains_key s.cells c then Some Twice else
    if nat_le (2 ^ 63) (money s + money_of (c, v)) then Some TooMuch else
    None

-- the cell stands there with its value, and all else is as before; a further slot is no difference
pub record IsAdded (old : LedgerCells) (c : Cell) (v : Val) (new : LedgerCells) : Type 0 where
  pub book : new.book ≡ old.book
  pub cells : new.cells ≡ insert old.cells c v
  pub flight : new.flight ≡ old.flight
  pub slots : (other : Cell) → contains old.slots other ≡ true → contains new.slots other ≡ true

-- what is told is the first reason, or that memory ran out
abbrev pub IsTold : AddEnd → Option AddEnd → Type 0
IsTold Misfit why = why ≡ Some Misfit
IsTold Twice why = why ≡ Some Twice
IsTold TooMuch why = why ≡ Some TooMuch
IsTold NoMemory why = Unit {0}

-- two cells of a ledger are the same but for slots
pub record AreAlike (s t : LedgerCells) : Type 0 where
  pub book : s.book ≡ t.book
  pub cells : s.cells ≡ t.cells
  pub flight : s.flight ≡ t.flight
