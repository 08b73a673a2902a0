-- The reason against the first of the rows that are left is told of all.
use Rattle.std.proofs.Common.{◌≡◌, ℕ, ◌+◌, List, ◌∷◌, Option, Some, Result, Err, ◌⊎◌, inl, inr, sym, ap, subst, ◌∙◌}
use Rattle.std.specs.FinMap.{insert}
use Rattle.value_core.specs.declared.val.Val.{Val}
use Rattle.cell_names.specs.declared.cell.Cell.{Cell}
use Rattle.cell_names.specs.Contents.{Contents}
use Rattle.code_book.specs.Books.{Contracts}
use Rattle.ledger_cells.specs.LedgerCells.{LedgerCells}
use Rattle.ledger_cells.specs.Placing.{IsTold, misplaced}
use Rattle.ledger_cells.specs.declared.fault.AddEnd.{AddEnd}
use Rattle.ledger_state.specs.declared.fault.BuildFault.{BuildFault}
use Rattle.ledger_state.specs.declared.fault.BuildFault.TheVariants.{NoMemory}
use Rattle.ledger_state.specs.Building.{added, against, unless}
use Rattle.ledger_state.specs.Inside.{told_at}
use Rattle.ledger_state.proofs.Adding.{reason_against}
use Rattle.ledger_state.proofs.CellLaws.{Held}

-- what comes of the rows that are left, by the reason against the first of them
at_first : (s : LedgerCells) (book : Contracts) (at : ℕ) (c : Cell) (v : Val) (left left' : List Held) (why : Option BuildFault) → s.book ≡ book → left ≡ (c, v) ∷ left' → against s.book at s.cells c v ≡ why →
    added book at s.cells left ≡ unless why (added book (at + 1) (insert s.cells c v) left')
at_first s book at c v left left' why made_for is reason =
    ap (added book at s.cells) is
    ∙ ap (λ o. unless o (added book (at + 1) (insert s.cells c v) left')) (subst (λ (b : Contracts). against b at s.cells c v ≡ why) made_for reason)

pub one_refused : (s : LedgerCells) (book : Contracts) (at : ℕ) (c : Cell) (v : Val) (end : AddEnd) (left left' : List Held) (whole : Result Contents BuildFault) →
    s.flight ≡ 0 → s.book ≡ book → left ≡ (c, v) ∷ left' → IsTold end (misplaced s c v) → added book at s.cells left ≡ whole → (told_at at end ≡ NoMemory) ⊎ (whole ≡ Err (told_at at end))
one_refused s book at c v end left left' whole none made_for is told so_far =
    elim (reason_against s at c v end none told) [
      | inl memory ↦ inl memory
      | inr why ↦ inr (sym so_far ∙ at_first s book at c v left left' (Some (told_at at end)) made_for is why)
    ]
