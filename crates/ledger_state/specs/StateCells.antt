-- The cells of a state as a store has them.
use Rattle.std.specs.Prelude.{◌≡◌, ℕ, true}
use Rattle.cell_names.specs.declared.access.Access.{Access}
use Rattle.code_book.specs.Books.{Contracts}
use Rattle.code_book.specs.Fits.{fits_access}
use Rattle.ledger_cells.specs.LedgerCells.{LedgerCells}
use Rattle.ledger_state.specs.Ledger.{Ledger, IsLedger}

-- these cells as a state's: each access that is fit for its book is fit for them, and nothing is in flight
pub record AreCellsOf (s : Ledger) (c : LedgerCells) : Type 0 where
  pub fit : (a : Access) → fits_access s.book a ≡ true → fits_access c.book a ≡ true
  pub cells : c.cells ≡ s.cells
  pub flight : c.flight ≡ 0

-- the state of a head, a book and cells
abbrev pub ledger_from : ℕ → ℕ → Contracts → LedgerCells → Ledger
ledger_from level now book cells = record { level = level; now = now; book = book; cells = cells.cells }

-- they are a state's
pub record IsState (level now : ℕ) (book : Contracts) (cells : LedgerCells) : Type 0 where
  pub lawful : IsLedger (ledger_from level now book cells)
  pub its_own : AreCellsOf (ledger_from level now book cells) cells
