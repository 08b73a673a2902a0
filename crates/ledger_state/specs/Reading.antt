-- Reading a state from the front of its file, and where it stops.
use Rattle.std.specs.Prelude.{ℕ, ◌+◌, ◌^◌, ◌&&◌, Bool, List, length, Option, Some, None, Result, nat_lt}
use Rattle.std.specs.Int.{w32, w64}
use Rattle.std.specs.FinMap.{from_sorted}
use Rattle.byte_fields.specs.Stops.{Stop}
use Rattle.byte_fields.specs.Readers.{Reader, number, made, with, checked, chained, behind, whole}
use Rattle.byte_fields.specs.Told.{alone}
use Rattle.value_core.specs.declared.val.Val.{Val}
use Rattle.value_codec.specs.declared.tag.TheConstants.{ANY_VALUE}
use Rattle.value_codec.specs.Reading.{value}
use Rattle.cell_names.specs.declared.cell.Cell.{Cell}
use Rattle.cell_names.specs.Contents.{Contents}
use Rattle.cell_names.specs.Reading.{cell, is_above}
use Rattle.cell_names.specs.Supply.{money_of}
use Rattle.code_book.specs.Books.{Contracts}
use Rattle.code_book.specs.Fits.{fits}
use Rattle.ledger_state.specs.BookReading.{book}
use Rattle.ledger_state.specs.Ledger.{Ledger}
use Rattle.ledger_state.specs.Spelling.{magic}
use Rattle.ledger_state.specs.Storages.{has_storages}

-- ---- cells

-- what stands before a cell: the last one, and all the money so far
pub record Before : Type 0 where
  pub last : Option Cell
  pub supply : ℕ

-- nothing
abbrev pub start : Before
start = record { last = None; supply = 0 }

-- what stands before the next cell
abbrev pub next : Before → Cell × Val → Before
next before e = record { last = Some e.0; supply = before.supply + money_of e }

-- the value fits the cell, and with it the supply stays below 2^63
abbrev pub may_stand : Contracts → ℕ → Cell → Val → Bool
may_stand book supply c v = fits book c v && nat_lt (supply + money_of (c, v)) (2 ^ 63)

-- the value of a cell, which is read whole before it is judged at its tag
abbrev pub value_in : Contracts → ℕ → Cell → Reader (Cell × Val)
value_in book supply c = made (λ v. (c, v)) (checked (may_stand book supply c) (value ANY_VALUE 128))

-- a cell above the last one, told at its first byte, and its value
abbrev pub held : Contracts → Before → Reader (Cell × Val)
held book before = with (checked (is_above before.last) cell) (value_in book before.supply)

-- the number of cells, then so many
abbrev pub rows : Contracts → Reader (List (Cell × Val))
rows book = with (number w32) (chained (held book) next start)

-- the values by their cells; a missing storage is told at the number
abbrev pub cells : Contracts → Reader Contents
cells book = checked (has_storages book) (made from_sorted (rows book))

-- ---- the file

-- the state of this head and this book, with the cells that are read
abbrev pub with_cells : ℕ → ℕ → Contracts → Reader Ledger
with_cells level now book = made (λ cells. record { level = level; now = now; book = book; cells = cells }) (cells book)

-- all of the bytes: the magic, the level, `now`, the contracts and the cells
unfoldable pub ledger : Reader Ledger
ledger = whole (behind magic (with (number w32) (λ level. with (number w64) (λ now. with book (λ contracts. with_cells level now contracts)))))

-- the state, or the place of the fault
abbrev pub ledger_of : List ℕ → Result Ledger Stop
ledger_of bytes = alone (length bytes) (ledger bytes)
