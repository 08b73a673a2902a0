-- What the cells of a ledger are, and what they are as a store.
use Rattle.std.specs.Prelude.{◌≡◌, ℕ, ◌+◌, ◌<◌, ◌^◌, true, Some}
use Rattle.std.specs.FinMap.{get}
use Rattle.std.specs.FinSet.{FinSet, contains}
use Rattle.value_core.specs.declared.val.Val.{Val}
use Rattle.cell_names.specs.declared.cell.Cell.{Cell}
use Rattle.cell_names.specs.declared.mode.Mode.TheVariants.{Own}
use Rattle.cell_names.specs.Cells.{cell_cmp}
use Rattle.cell_names.specs.Contents.{Contents, IsTidy}
use Rattle.cell_names.specs.Conditions.{Seen}
use Rattle.cell_names.specs.Supply.{supply}
use Rattle.code_book.specs.Books.{Contracts, IsBook}
use Rattle.code_book.specs.Fits.{fits, fits_access}

-- the book that they were made for, what stands in cells, what is in flight, and which cells have a slot
pub record LedgerCells : Type 0 where
  pub book : Contracts
  pub cells : Contents
  pub flight : ℕ
  pub slots : FinSet cell_cmp

-- as a store they lend each cell in every mode, and an access is fit where it is fit for the book
abbrev pub seen_of : LedgerCells → Seen
seen_of s = record {
  cells = s.cells;
  flight = s.flight;
  lent = λ c. Some Own;
  fits = fits_access s.book;
  slots = contains s.slots;
}

-- all money: what stands in balances and what is in flight
abbrev pub money : LedgerCells → ℕ
money s = supply s.cells + s.flight

-- what they always keep: each value fits the book, no balance of 0 stands, and all money stays below 2^63
pub record AreLawful (s : LedgerCells) : Type 0 where
  pub book : IsBook s.book
  pub values : (c : Cell) (v : Val) → get s.cells c ≡ Some v → fits s.book c v ≡ true
  pub tidy : IsTidy s.cells
  pub within : money s < 2 ^ 63
