-- States: what cells of a book keep, and when the book is theirs.
use Rattle.std.proofs.Common.{◌≡◌, ℕ, ◌+◌, ◌<◌, ◌^◌, true, Some, None, refl, sym, ap, subst, ◌∙◌, arith}
use Rattle.std.specs.Prelude.{is_none}
use Rattle.std.specs.FinMap.{get}
use Rattle.value_core.specs.declared.val.Val.{Val}
use Rattle.cell_names.specs.declared.cell.Cell.{Cell}
use Rattle.cell_names.specs.Supply.{supply}
use Rattle.code_book.specs.Books.{Contracts, IsBook}
use Rattle.code_book.specs.Fits.{fits, fits_access}
use Rattle.code_book.specs.Ownership.{IsBookOf}
use Rattle.ledger_cells.specs.LedgerCells.{AreLawful, LedgerCells, seen_of}
use Rattle.ledger_state.specs.Ledger.{Ledger}
use Rattle.ledger_state.specs.StateCells.{AreCellsOf, IsState, ledger_from}
use Rattle.ledger_state.specs.Storages.{least_bare}
use Rattle.ledger_state.proofs.StorageLaws.{housed_from}

-- ---- whose the book is

-- each value fits its cell
abbrev AllFit : LedgerCells → Contracts → Type 0
AllFit cells book = (c : Cell) (v : Val) → get cells.cells c ≡ Some v → fits book c v ≡ true

-- a book for which cells were made is theirs, where each contract has its storage
pub made_for_owner : (book : Contracts) (cells : LedgerCells) → cells.book ≡ book → least_bare book cells.cells ≡ None → AreLawful cells → IsBookOf book (seen_of cells)
made_for_owner book cells made_for housed are = record {
  fit = λ a e. subst (λ (b : Contracts). fits_access b a ≡ true) (sym made_for) e;
  values = subst (AllFit cells) made_for are.values;
  storages = λ address known lent. housed_from book cells.cells (ap is_none housed) address known;
  tidy = are.tidy;
  money = are.within;
}

pub is_state : (level now : ℕ) (book : Contracts) (cells : LedgerCells) → level < 2 ^ 32 → now < 2 ^ 64 → cells.flight ≡ 0 → IsBook book → IsBookOf book (seen_of cells) → IsState level now book cells
is_state level now book cells small early none lawful owner =
    let within : supply cells.cells + cells.flight < 2 ^ 63 = owner.money in
    record {
      lawful = record {
        level = small;
        now = early;
        book = lawful;
        cells = record {
          values = owner.values;
          storages = λ address known. owner.storages address known refl;
          tidy = owner.tidy;
          supply = omega arith;
        };
      };
      its_own = record { fit = owner.fit; cells = refl; flight = none };
    }

pub owned : (level now : ℕ) (book : Contracts) (cells : LedgerCells) → IsState level now book cells → IsBookOf book (seen_of cells)
owned level now book cells is =
    let small : supply cells.cells < 2 ^ 63 = is.lawful.cells.supply in
    let none : cells.flight ≡ 0 = is.its_own.flight in
    record {
      fit = is.its_own.fit;
      values = is.lawful.cells.values;
      storages = λ address known lent. is.lawful.cells.storages address known;
      tidy = is.lawful.cells.tidy;
      money = omega arith;
    }

-- ---- seen from outside

pub cells_of : (level now : ℕ) (book : Contracts) (cells : LedgerCells) (s : Ledger) → ledger_from level now book cells ≡ s → IsState level now book cells → AreCellsOf s cells
cells_of level now book cells s is state = subst (λ (t : Ledger). AreCellsOf t cells) is state.its_own

pub owned_as : (level now : ℕ) (book : Contracts) (cells : LedgerCells) (s : Ledger) → ledger_from level now book cells ≡ s → IsState level now book cells → IsBookOf s.book (seen_of cells)
owned_as level now book cells s is state = subst (λ (t : Ledger). IsBookOf t.book (seen_of cells)) is (owned level now book cells state)

-- ---- copies

pub copied : (level now : ℕ) (book book' : Contracts) (cells cells' : LedgerCells) → book' ≡ book → cells' ≡ cells → IsState level now book cells → IsState level now book' cells'
copied level now book book' cells cells' books same is = subst (λ (b : Contracts). IsState level now b cells') (sym books) (subst (IsState level now book) (sym same) is)

pub copied_view : (level now : ℕ) (book book' : Contracts) (cells cells' : LedgerCells) (s : Ledger) → book' ≡ book → cells' ≡ cells → ledger_from level now book cells ≡ s → ledger_from level now book' cells' ≡ s
copied_view level now book book' cells cells' s books same is = (λ i. ledger_from level now (books i) (same i)) ∙ is
