-- When an access may be asked of cells of a ledger, and when its undo may be taken.
use Rattle.std.proofs.Common.{◌≡◌, ◌≢◌, ℕ, Bool, true, false, ◌||◌, List, Ok, refl, sym, subst, ◌∙◌}
use Rattle.std.specs.Prelude.{◌==◌}
use Rattle.std.specs.FinSet.{contains}
use Rattle.std.proofs.lemmas.Bool.{eqb-true}
use Rattle.cell_names.specs.declared.cell.Cell.{Cell}
use Rattle.cell_names.specs.declared.access.Access.{Access}
use Rattle.cell_names.specs.declared.access.Access.TheVariants as access
use Rattle.cell_names.specs.declared.access.Reply.{Reply}
use Rattle.cell_names.specs.declared.access.Undo.{Undo}
use Rattle.cell_names.specs.declared.access.Undo.TheVariants as undo
use Rattle.cell_names.specs.Contents.{Contents}
use Rattle.cell_names.specs.Effects.{undo_of}
use Rattle.cell_names.specs.Conditions.{NamesWritable, IsCovered, HasAmount, MayChange, CanAccess, CanUndo}
use Rattle.cell_names.specs.Stores.{HasSlot, Did, Accesses}
use Rattle.cell_names.proofs.Undoing.{taken_back}
use Rattle.code_book.specs.Books.{Contracts, has_account}
use Rattle.code_book.specs.Fits.{fits_access, fits_undo}
use Rattle.code_book.proofs.Owning.{writable}
use Rattle.ledger_cells.specs.LedgerCells.{LedgerCells, seen_of, AreLawful}

fit_names : (book : Contracts) (a : Access) → fits_access book a ≡ true → NamesWritable a
fit_names book (access.Read c) fit = tt
fit_names book (access.Write c v) fit = writable book c v fit
fit_names book (access.Credit a n) fit = tt
fit_names book (access.Debit a n) fit = tt

pub may_be_asked : (s : LedgerCells) (a : Access) → fits_access s.book a ≡ true → IsCovered s.flight a → CanAccess (seen_of s) a
may_be_asked s a fit covered = record { names = fit_names s.book a fit; fits = fit; covered = covered }

given_account : (book : Contracts) (a : List ℕ) (n : ℕ) (b : Bool) → (n == 0) ≡ b → (b || has_account book a) ≡ true → n ≢ 0 → has_account book a ≡ true
given_account book a n true zero_is fit some = absurd (some (eqb-true n 0 zero_is))
given_account book a n false zero_is fit some = fit

may_change : (s : LedgerCells) (u : Undo) → fits_undo s.book u ≡ true → HasSlot (contains s.slots) u → MayChange (seen_of s) u
may_change s undo.Nothing fit slot = tt
may_change s (undo.Put c v) fit slot = record { names = writable s.book c v fit; fits = fit; slot = slot }
may_change s (undo.Uncredit a n) fit slot = tt
may_change s (undo.Undebit a n) fit slot = record { credited = λ some. (n, given_account s.book a n (n == 0) refl fit some); slot = λ some. slot }

pub may_be_taken_back : (s t : LedgerCells) (a : Access) (r : Reply) (u : Undo) → AreLawful s → CanAccess (seen_of s) a → Accesses (seen_of s) a (Ok (r, u)) (seen_of t) → fits_undo t.book u ≡ true → CanUndo (seen_of t) u
may_be_taken_back s t a r u lawful can done fit =
    let did : Did (seen_of s) a r u (seen_of t) = done.did in
    let back = taken_back a s.cells s.flight lawful.tidy can.covered in
    record {
      amount =
          subst (λ (x : Undo). HasAmount t.cells t.flight x) (sym did.undo)
          (subst (λ (x : Contents × ℕ). HasAmount x.0 x.1 (undo_of a s.cells)) (λ i. (sym did.cells i, sym did.flight i)) back.amount);
      change = may_change t u fit did.slot;
    }
