-- What cells of a ledger always keep, when an access is done, undone, or a cell is added.
use Rattle.std.proofs.Common.{◌≡◌, ℕ, ◌+◌, ◌<◌, ◌≤◌, ◌^◌, Bool, true, false, ◌||◌, List, Option, None, refl, sym, ap, subst, ◌∙◌, arith}
use Rattle.std.specs.Prelude.{◌==◌}
use Rattle.std.specs.FinMap.{empty, get, get-empty}
use Rattle.std.specs.FinSet.{FinSet}
use Rattle.value_core.specs.declared.val.Val.{Val}
use Rattle.cell_names.specs.declared.cell.Cell.{Cell}
use Rattle.cell_names.specs.declared.cell.Cell.TheVariants.{Balance}
use Rattle.cell_names.specs.declared.access.Access.{Access}
use Rattle.cell_names.specs.declared.access.Undo.{Undo}
use Rattle.cell_names.specs.declared.access.Undo.TheVariants as undo
use Rattle.cell_names.specs.Contents.{Contents, amount_in, amount_kept, balance, with_balance, IsTidy}
use Rattle.cell_names.specs.Cells.{cell_cmp}
use Rattle.cell_names.specs.Supply.{supply}
use Rattle.cell_names.specs.Effects.{after, flight_after, undone, flight_undone}
use Rattle.cell_names.specs.Conditions.{MayChange, CanAccess, CanUndo}
use Rattle.cell_names.specs.Laws.{PutsWritable}
use Rattle.cell_names.proofs.Undoing.{tidy_after, tidy_undone}
use Rattle.cell_names.proofs.Money.{kept_after, kept_undone, supply-with_balance}
use Rattle.code_book.specs.Books.{Contracts, IsBook, has_account}
use Rattle.code_book.specs.Fits.{fits, fits_undo}
use Rattle.code_book.proofs.Owning.{AllFit, after_fits, undone_fits, within_supply}
use Rattle.ledger_cells.specs.LedgerCells.{LedgerCells, seen_of, money, AreLawful}
use Rattle.ledger_cells.proofs.Counting.{supply-empty}

-- the same book, and values, tidiness and all money as before
pub still_lawful : (s t : LedgerCells) (m : Contents) (f : ℕ) → AreLawful s → t.book ≡ s.book → t.cells ≡ m → t.flight ≡ f → AllFit s.book m → IsTidy m → supply m + f ≡ money s → AreLawful t
still_lawful s t m f lawful book cells flight values tidy kept = record {
  book = subst IsBook (sym book) lawful.book;
  values = λ c v e. ap (λ (b : Contracts). fits b c v) book ∙ values c v (ap (λ (n : Contents). get n c) (sym cells) ∙ e);
  tidy = subst IsTidy (sym cells) tidy;
  within =
      let within : money s < 2 ^ 63 = lawful.within in
      let sum : supply t.cells ≡ supply m = ap supply cells in
      omega (arith, within, sum, flight, kept);
}

pub lawful_after : (s t : LedgerCells) (a : Access) → AreLawful s → CanAccess (seen_of s) a → t.book ≡ s.book → t.cells ≡ after a s.cells → t.flight ≡ flight_after a s.cells s.flight → AreLawful t
lawful_after s t a lawful can book cells flight =
    still_lawful s t (after a s.cells) (flight_after a s.cells s.flight) lawful book cells flight
    (after_fits s.book s.cells s.flight lawful.values lawful.within a can.fits can.covered)
    (tidy_after a s.cells can.names lawful.tidy)
    (kept_after a s.cells s.flight can.names can.covered)

-- ---- undos

returned : (s : LedgerCells) (a : List ℕ) (n : ℕ) (b : Bool) → (n == 0) ≡ b → MayChange (seen_of s) (undo.Undebit a n) → (b || has_account s.book a) ≡ true
returned s a n true e may = refl
returned s a n false e may = (may.credited (λ none. absurd cc)).1

undo_is_fit : (s : LedgerCells) (u : Undo) → MayChange (seen_of s) u → fits_undo s.book u ≡ true
undo_is_fit s undo.Nothing may = refl
undo_is_fit s (undo.Put c v) may = may.fits
undo_is_fit s (undo.Uncredit a n) may = refl
undo_is_fit s (undo.Undebit a n) may = returned s a n (n == 0) refl may

puts_writable : (s : LedgerCells) (u : Undo) → MayChange (seen_of s) u → PutsWritable u
puts_writable s undo.Nothing may = tt
puts_writable s (undo.Put c v) may = may.names
puts_writable s (undo.Uncredit a n) may = tt
puts_writable s (undo.Undebit a n) may = tt

pub lawful_undone : (s t : LedgerCells) (u : Undo) → AreLawful s → CanUndo (seen_of s) u → t.book ≡ s.book → t.cells ≡ undone u s.cells → t.flight ≡ flight_undone u s.flight → AreLawful t
lawful_undone s t u lawful can book cells flight =
    let names = puts_writable s u can.change in
    still_lawful s t (undone u s.cells) (flight_undone u s.flight) lawful book cells flight
    (undone_fits s.book s.cells s.flight lawful.values lawful.within u (undo_is_fit s u can.change) can.amount)
    (tidy_undone u s.cells names lawful.tidy)
    (kept_undone u s.cells s.flight names can.amount)

-- ---- money that fits

pub after_within : (s : LedgerCells) (a : Access) → AreLawful s → CanAccess (seen_of s) a → supply (after a s.cells) < 2 ^ 64
after_within s a lawful can =
    let kept = kept_after a s.cells s.flight can.names can.covered in
    let within : supply s.cells + s.flight < 2 ^ 63 = lawful.within in
    omega (arith, kept, within)

pub undone_within : (s : LedgerCells) (u : Undo) → AreLawful s → CanUndo (seen_of s) u → supply (undone u s.cells) < 2 ^ 64
undone_within s u lawful can =
    let kept = kept_undone u s.cells s.flight (puts_writable s u can.change) can.amount in
    let within : supply s.cells + s.flight < 2 ^ 63 = lawful.within in
    omega (arith, kept, within)

-- a balance that is no more than what there was and is in flight
pub put_within : (s : LedgerCells) (a : List ℕ) (n : ℕ) → AreLawful s → n ≤ balance s.cells a + s.flight → supply (with_balance s.cells a n) < 2 ^ 64
put_within s a n lawful most =
    let within : supply s.cells + s.flight < 2 ^ 63 = lawful.within in
    omega (arith, most, within, supply-with_balance s.cells a n)

pub lawful_none : (book : Contracts) (cells : Contents) (slots : FinSet cell_cmp) → IsBook book → cells ≡ empty → AreLawful (record { book = book; cells = cells; flight = 0; slots = slots })
lawful_none book cells slots is_book none =
    let absent : (c : Cell) → get cells c ≡ None = λ c. ap (λ (m : Contents). get m c) none ∙ get-empty cell_cmp c in
    record {
      book = is_book;
      values = λ c v e. absurd (let nothing = absent c in cc);
      tidy = λ a. absent (Balance a) ∙ ap (λ (o : Option Val). amount_kept (amount_in o)) (sym (absent (Balance a)));
      within = let sum : supply cells ≡ 0 = ap (λ (m : Contents). supply m) none ∙ supply-empty in omega (arith, sum);
    }

-- an account has no more than all accounts together
pub balance_within : (s : LedgerCells) (a : List ℕ) → AreLawful s → balance s.cells a + s.flight < 2 ^ 63
balance_within s a lawful =
    let most = within_supply s.cells a in
    let within : supply s.cells + s.flight < 2 ^ 63 = lawful.within in
    omega (arith, most, within)
