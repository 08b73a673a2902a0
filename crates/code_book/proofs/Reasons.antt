-- The first reason against a contract, and a contract against which there is none.
use Rattle.std.proofs.Common.{◌≡◌, ℕ, ◌<◌, ◌≤◌, Bool, true, false, List, [], ◌∷◌, length, Option, Some, None, refl, sym, ap, subst, ◌∙◌, arith, rules}
use Rattle.std.specs.Prelude.{insert, is_some, nat_le, if◌then◌else◌, IsTrue}
use Rattle.std.specs.FinMap.{contains_key, len}
use Rattle.std.specs.FinMap as finmap
use Rattle.value_core.specs.Places.{IsGap, IsPlace}
use Rattle.value_core.specs.Lawful.{is_lawful_address}
use Rattle.value_core.specs.declared.ty.Ty.{Ty}
use Rattle.michelson_code.specs.declared.script.Script.{Script}
use Rattle.michelson_code.specs.declared.typed.Typed.{Typed}
use Rattle.cell_names.specs.Accounts.{is_implicit}
use Rattle.code_book.specs.declared.book.TheConstants.{MOST_CONTRACTS}
use Rattle.code_book.specs.declared.fault.BookEnd.{BookEnd}
use Rattle.code_book.specs.declared.fault.BookEnd.TheVariants.{NotContract, Taken, Full, TooLong}
use Rattle.code_book.specs.Books.{Contracts, IsListed}
use Rattle.code_book.specs.Adding.{is_too_long, refusal}
use Rattle.code_book.specs.Listing.{Row, Ascends, IsRow, book_of}
use Rattle.code_book.proofs.Rows.{by_bytes, get-place, get-gap, len-book}
use Rattle.code_book.proofs.Keeping.{grown, one_more_row}

-- the first reason, by the four tests
abbrev reason : Bool → Bool → Bool → Bool → Option BookEnd
reason implicit taken full long =
    if implicit then Some NotContract else
    if taken then Some Taken else
    if full then Some Full else
    if long then Some TooLong else
    None

first_reason : (book : Contracts) (a : List ℕ) (s : Script) (implicit taken full long : Bool) → is_implicit a ≡ implicit → contains_key book a ≡ taken → nat_le MOST_CONTRACTS (len book) ≡ full → is_too_long s ≡ long → refusal book a s ≡ reason implicit taken full long
first_reason book a s implicit taken full long e1 e2 e3 e4 = λ k. reason (e1 k) (e2 k) (e3 k) (e4 k)

at_most : (x y : ℕ) → x ≤ y → nat_le x y ≡ true
at_most x y h = search rules

below : (x y : ℕ) → y < x → nat_le x y ≡ false
below x y h = search rules

is_below : (x y : ℕ) → nat_le x y ≡ false → y < x
is_below x y h = search rules

place_known : (row : Row) (a : List ℕ) (i : ℕ) → Ascends row → IsPlace (λ e. e.0) row a i → contains_key (book_of row) a ≡ true
place_known [] a i up p = let within : i < 0 = p.within in absurd (omega arith)
place_known (x ∷ row) a i up p = ap is_some (get-place (x ∷ row) a i x up p)

-- a row that is a book, as it is read
pub record IsRead (s row : Row) (book : Contracts) : Type 0 where
  pub same : s ≡ row
  pub ascend : Ascends row
  pub view : book_of row ≡ book

pub told_taken : (s row : Row) (book : Contracts) (a : List ℕ) (t : Script) (i : ℕ) → IsRead s row book → is_implicit a ≡ false → IsPlace (λ e. e.0) s a i → refusal book a t ≡ Some Taken
told_taken s row book a t i read contract p =
    let here : IsPlace (λ e. e.0) row a i = subst (λ (r : Row). IsPlace (λ (e : List ℕ × Typed). e.0) r a i) read.same p in
    first_reason book a t false true _ _ contract (ap (λ (b : Contracts). contains_key b a) (sym read.view) ∙ place_known row a i read.ascend here) refl refl

gap_here : (s row : Row) (a : List ℕ) (i : ℕ) → s ≡ row → IsGap (λ e. e.0) by_bytes s a i → IsGap (λ e. e.0) by_bytes row a i
gap_here s row a i same g = subst (λ (r : Row). IsGap (λ (e : List ℕ × Typed). e.0) by_bytes r a i) same g

not_taken : (s row : Row) (book : Contracts) (a : List ℕ) (i : ℕ) → IsRead s row book → IsGap (λ e. e.0) by_bytes s a i → contains_key book a ≡ false
not_taken s row book a i read g = ap (λ (b : Contracts). contains_key b a) (sym read.view) ∙ ap is_some (get-gap row a i read.ascend (gap_here s row a i read.same g))

count_of : (s row : Row) (book : Contracts) → IsRead s row book → len book ≡ length s
count_of s row book read = ap (λ (b : Contracts). len b) (sym read.view) ∙ len-book row read.ascend ∙ ap length (sym read.same)

pub told_full : (s row : Row) (book : Contracts) (a : List ℕ) (t : Script) (i : ℕ) → IsRead s row book → is_implicit a ≡ false → IsGap (λ e. e.0) by_bytes s a i → MOST_CONTRACTS ≤ length s → refusal book a t ≡ Some Full
told_full s row book a t i read contract g full =
    first_reason book a t false false true _ contract (not_taken s row book a i read g) (ap (nat_le MOST_CONTRACTS) (count_of s row book read) ∙ at_most MOST_CONTRACTS (length s) full) refl

pub told_by_text : (s row : Row) (book : Contracts) (a : List ℕ) (t : Script) (i : ℕ) (long : Bool) → IsRead s row book → is_implicit a ≡ false → IsGap (λ e. e.0) by_bytes s a i → length s < MOST_CONTRACTS → is_too_long t ≡ long → refusal book a t ≡ (if long then Some TooLong else None)
told_by_text s row book a t i long read contract g room text =
    first_reason book a t false false false long contract (not_taken s row book a i read g) (ap (nat_le MOST_CONTRACTS) (count_of s row book read) ∙ below MOST_CONTRACTS (length s) room) text

-- ---- what one more leaves

pub is_listed : (a : List ℕ) (t : Typed) → IsTrue (is_lawful_address a) → is_implicit a ≡ false → is_too_long t.script ≡ false → IsListed a t.script
is_listed a t lawful contract text = record { lawful = lawful; contract = contract; typed = t.typed; short = is_below _ _ text }

pub added_row : (s row new : Row) (kind : Ty) (a : List ℕ) (t : Typed) (i : ℕ) → s ≡ row → IsRow row kind → IsGap (λ e. e.0) by_bytes s a i → new ≡ insert row i (a, t) → length s < MOST_CONTRACTS → IsListed a t.script → IsRow new kind
added_row s row new kind a t i same kept g is room listed =
    one_more_row row new kind a t i kept (gap_here s row a i same g) is (subst (λ (r : Row). length r < MOST_CONTRACTS) same room) listed

pub added_book : (s row new : Row) (book : Contracts) (a : List ℕ) (t : Typed) (i : ℕ) → IsRead s row book → IsGap (λ e. e.0) by_bytes s a i → new ≡ insert row i (a, t) → book_of new ≡ finmap.insert book a t.script
added_book s row new book a t i read g is =
    let more = grown row new a t i read.ascend (gap_here s row a i read.same g) is in
    sym more.book ∙ ap (λ (b : Contracts). finmap.insert b a t.script) read.view
