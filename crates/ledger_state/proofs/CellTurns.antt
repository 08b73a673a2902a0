-- One more cell that is read and added, as a loop goes from one to the next.
use Rattle.std.proofs.Common.{◌≡◌, ℕ, ◌+◌, ◌-◌, ◌<◌, true, List, ◌∷◌, Option, Some, None, Ok, refl, sym, ap, subst, ◌∙◌}
use Rattle.std.specs.List.{list_all, AllByRecursion}
use Rattle.std.specs.Ordering.{is_lt}
use Rattle.std.specs.FinMap.{empty, entries, get, insert}
use Rattle.byte_fields.specs.Readers.{Read, Reader, chained}
use Rattle.byte_fields.proofs.Loops.{goes_on, with_front}
use Rattle.value_core.specs.declared.val.Val.{Val}
use Rattle.value_codec.specs.Spelling.{IsSpelt}
use Rattle.cell_names.specs.declared.cell.Cell.{Cell}
use Rattle.cell_names.specs.Cells.{cell_cmp}
use Rattle.cell_names.specs.CellOrder.{cell_cmp-total, cell_cmp-ties}
use Rattle.cell_names.specs.Contents.{Contents}
use Rattle.cell_names.specs.Reading.{is_above}
use Rattle.cell_names.specs.Spelling.{IsCell}
use Rattle.code_book.specs.Books.{Contracts}
use Rattle.code_book.specs.Fits.{fits}
use Rattle.ledger_cells.specs.LedgerCells.{AreLawful, LedgerCells}
use Rattle.ledger_state.specs.Inside.{IsLast, IsReadInto, before}
use Rattle.ledger_state.specs.Reading.{Before, held, next}
use Rattle.ledger_state.specs.Spelling.{AreSpelt}
use Rattle.ledger_state.proofs.CellLaws.{Held}
use Rattle.ledger_state.proofs.Entries.{each_held, held_each}
use Rattle.ledger_state.proofs.Growing.{not_held, nothing, one_held, still_under, supply_grows}

-- nothing stands yet
pub none_stands : (last : Option Cell) (m : Contents) → m ≡ empty → IsLast last m
none_stands last m is = record { below = λ c above. subst (λ (es : List Held). list_all (λ e. is_lt (cell_cmp e.0 c)) es ≡ true) (sym (ap entries is ∙ nothing cell_cmp)) refl }

pub one_stands : (last : Option Cell) (old new : LedgerCells) (c : Cell) (read : Reader Held) (bytes rest : List ℕ) → IsLast last old.cells → is_above last c ≡ true → IsReadInto read bytes old c new rest → IsLast (Some c) new.cells
one_stands last old new c read bytes rest is above read_in = record { below = still_under old.cells new.cells last c read_in.value is.below above read_in.cells }

-- what stands before the next cell
next_before : (last : Option Cell) (old new : LedgerCells) (c : Cell) (v : Val) → IsLast last old.cells → is_above last c ≡ true → new.cells ≡ insert old.cells c v → next (before last old.cells) (c, v) ≡ before (Some c) new.cells
next_before last old new c v is above grown =
    ap (λ n. let b : Before = record { last = Some c; supply = n } in b) (supply_grows old.cells new.cells last c v is.below above grown)

pub one_read : (book : Contracts) (last : Option Cell) (old new : LedgerCells) (c : Cell) (count i : ℕ) (bytes rest : List ℕ) (total : Read (List Held)) →
    old.book ≡ book → IsLast last old.cells → is_above last c ≡ true → IsReadInto (held old.book (before last old.cells)) bytes old c new rest → i < count →
    with_front (entries old.cells) (chained (held book) next (before last old.cells) (count - i) bytes) ≡ total →
    with_front (entries new.cells) (chained (held book) next (before (Some c) new.cells) (count - (i + 1)) rest) ≡ total
one_read book last old new c count i bytes rest total made_for is above read_in lt so_far =
    let was : held book (before last old.cells) bytes ≡ Ok ((c, read_in.value), rest) = subst (λ (b : Contracts). held b (before last old.cells) bytes ≡ Ok ((c, read_in.value), rest)) made_for read_in.was in
    ap (λ (es : List Held). with_front es (chained (held book) next (before (Some c) new.cells) (count - (i + 1)) rest)) (one_held old.cells new.cells last c read_in.value is.below above read_in.cells)
    ∙ goes_on (held book) next (before last old.cells) (before (Some c) new.cells) (entries old.cells) count i bytes (c, read_in.value) rest total lt was (next_before last old new c read_in.value is above read_in.cells) so_far

-- a cell above the last one isn't there
pub is_new : (last : Option Cell) (m : Contents) (c : Cell) → IsLast last m → is_above last c ≡ true → get m c ≡ None
is_new last m c is above = not_held m last c is.below above

-- ---- as they are written

-- the value fits its cell
abbrev pub IsFitting : Contracts → Held → Type 0
IsFitting book e = fits book e.0 e.1 ≡ true

-- both have spellings
abbrev pub IsSpeltHeld : Held → Type 0
IsSpeltHeld e = IsCell e.0 × IsSpelt 18 128 e.1

pub all_fitting : (s : LedgerCells) → AreLawful s → AllByRecursion (IsFitting s.book) (entries s.cells)
all_fitting s are = held_each cell_cmp-total (IsFitting s.book) s.cells are.values

pub all_spelt : (m : Contents) → AllByRecursion IsSpeltHeld (entries m) → AreSpelt m
all_spelt m all c v e = each_held cell_cmp-total IsSpeltHeld cell_cmp-ties m all c v e

-- the first of those that are left
pub first_fits : (book : Contracts) (rest rest' : List Held) (e : Held) → rest ≡ e ∷ rest' → AllByRecursion (IsFitting book) rest → IsFitting book e
first_fits book rest rest' e is all = (subst (AllByRecursion (IsFitting book)) is all).0

-- and the others
pub others_fit : (book : Contracts) (rest rest' : List Held) (e : Held) → rest ≡ e ∷ rest' → AllByRecursion (IsFitting book) rest → AllByRecursion (IsFitting book) rest'
others_fit book rest rest' e is all = (subst (AllByRecursion (IsFitting book)) is all).1
