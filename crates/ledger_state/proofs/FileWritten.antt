-- Cells that are written behind their number, and which states that were written are read again.
use Rattle.std.proofs.Common.{◌≡◌, ℕ, ◌<◌, ◌^◌, List, ◌++◌, ap, sym, subst, ◌∙◌, append_assoc}
use Rattle.std.specs.List.{flat_map, AllByRecursion}
use Rattle.std.specs.Int.{w32, to_be_bytes}
use Rattle.std.specs.FinMap.{entries, len}
use Rattle.cell_names.specs.Contents.{Contents}
use Rattle.code_book.specs.Books.{Contracts}
use Rattle.ledger_cells.specs.LedgerCells.{AreLawful, LedgerCells}
use Rattle.ledger_state.specs.Ledger.{IsLedger, Ledger}
use Rattle.ledger_state.specs.Spelling.{AreSpelt, AreWritable, CanBeStored, spell_cells, spell_held}
use Rattle.ledger_state.specs.StateCells.{AreCellsOf}
use Rattle.ledger_state.proofs.CellLaws.{Held}
use Rattle.ledger_state.proofs.CellTurns.{IsFitting, IsSpeltHeld, all_fitting}

-- ---- before the first cell is written

pub cells_begun : (m : Contents) (out front out' : List ℕ) (left : List Held) (n : ℕ) → out' ≡ out ++ front → front ≡ to_be_bytes w32 n → n ≡ len m → left ≡ entries m → out' ++ flat_map spell_held left ≡ out ++ spell_cells m
cells_begun m out front out' left n written is count all =
    ap (λ (l : List ℕ). l ++ flat_map spell_held left) written
    ∙ append_assoc out front (flat_map spell_held left)
    ∙ (λ i. out ++ ((is ∙ ap (to_be_bytes w32) count) i ++ flat_map spell_held (all i)))

pub fitting_walk : (s : LedgerCells) (left : List Held) → AreLawful s → left ≡ entries s.cells → AllByRecursion (IsFitting s.book) left
fitting_walk s left are all = subst (AllByRecursion (IsFitting s.book)) (sym all) (all_fitting s are)

pub all_walked : (m : Contents) (left : List Held) → left ≡ entries m → AllByRecursion IsSpeltHeld left → AllByRecursion IsSpeltHeld (entries m)
all_walked m left all = subst (AllByRecursion IsSpeltHeld) all

-- ---- the whole file

pub can_be_stored : (s : Ledger) (c : LedgerCells) (book : Contracts) → AreCellsOf s c → IsLedger s → book ≡ s.book → len s.cells < 2 ^ 32 → AreWritable book → AreSpelt c.cells → CanBeStored s
can_be_stored s c book are lawful its few scripts cells = record {
  lawful = lawful;
  few = few;
  scripts = subst AreWritable its scripts;
  cells = subst AreSpelt are.cells cells;
}
