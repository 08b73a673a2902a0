-- What rows keep as books: with no contract, with one more, and where the scripts are the same.
use Rattle.std.proofs.Common.{◌≡◌, ℕ, ◌+◌, ◌<◌, ◌==◌, Bool, true, false, cond, List, [], map, length, Option, Some, None, refl, sym, ap, subst, ◌∙◌, arith, eq-eqb}
use Rattle.std.specs.Prelude.{insert, is_some, ◌↔◌, IsTrue}
use Rattle.std.specs.declared.cmp.Ordering.{Ordering}
use Rattle.std.specs.declared.cmp.Ordering.TheVariants.{Less, Equal, Greater}
use Rattle.std.specs.Ordering.{is_eq, eq_by_cmp}
use Rattle.std.specs.FinMap.{get, len, empty, empty_of_len, entries, from_sorted, len-empty, len-insert, get-insert}
use Rattle.std.specs.FinMap as finmap
use Rattle.std.proofs.lemmas.Bool.{eqb-true}
use Rattle.std.proofs.lemmas.Option.{same_Some}
use Rattle.value_core.specs.declared.ty.Ty.{Ty}
use Rattle.value_core.specs.declared.ty.Ty.TheVariants as type
use Rattle.value_core.specs.Places.{IsGap}
use Rattle.value_core.proofs.PlaceLemmas.{put-gap}
use Rattle.michelson_code.specs.declared.script.Script.{Script}
use Rattle.michelson_code.specs.declared.typed.Typed.{Typed}
use Rattle.code_book.specs.declared.book.TheConstants.{MOST_CONTRACTS}
use Rattle.code_book.specs.Books.{Contracts, IsBook, IsListed}
use Rattle.code_book.specs.Listing.{Row, Ascends, IsRow, script_entry, book_of}
use Rattle.code_book.proofs.Rows.{by_bytes, total, ties, is_sorted-scripts, entries-book, get-book, len-book, book-nothing, get-gap, put-ascends, insert-book}

-- ---- no contract

nothing_listed : (q : List ℕ) (s : Script) → get (book_of []) q ≡ Some s → IsListed q s
nothing_listed q s e = let none : get (book_of []) q ≡ None = get-book [] q refl in let both : None ≡ Some s = sym none ∙ e in absurd cc

pub nothing : (row : Row) → row ≡ [] → IsRow row type.Unit
nothing row is =
    subst (λ (r : Row). IsRow r type.Unit) (sym is)
    (record { ascend = refl; book = record { few = let none = len-book [] refl in omega (arith, none); listed = nothing_listed }; takes_unit = refl })

pub book_is_empty : (row : Row) → row ≡ [] → book_of row ≡ empty
book_is_empty row is = ap book_of is ∙ book-nothing

pub length_of_empty : (row : Row) → Ascends row → book_of row ≡ empty → length row ≡ 0
length_of_empty row up is = sym (len-book row up) ∙ ap len is ∙ len-empty by_bytes Script

pub empty_of_length : (row : Row) → Ascends row → length row ≡ 0 → book_of row ≡ empty
empty_of_length row up none = empty_of_len (book_of row) (len-book row up ∙ none)

-- ---- one more contract

tie_of : (r : Ordering) → is_eq r ≡ true → r ≡ Equal
tie_of Less e = absurd cc
tie_of Equal e = refl
tie_of Greater e = absurd cc

listed_either : (book : Contracts) (a q : List ℕ) (s t : Script) (b : Bool) → eq_by_cmp by_bytes q a ≡ b → IsListed a s → (get book q ≡ Some t → IsListed q t) → cond b (Some s) (get book q) ≡ Some t → IsListed q t
listed_either book a q s t true tied new old e =
    let key : a ≡ q = sym (ties q a (tie_of _ tied)) in
    let script : s ≡ t = same_Some s t e in
    subst (λ (x : List ℕ × Script). IsListed x.0 x.1) (λ i. (key i, script i)) new
listed_either book a q s t false tied new old e = old e

pub one_more_book : (book : Contracts) (a : List ℕ) (s : Script) → IsBook book → len book < MOST_CONTRACTS → get book a ≡ None → IsListed a s → IsBook (finmap.insert book a s)
one_more_book book a s kept room free new = record {
  few =
      let grown : len (finmap.insert book a s) ≡ len book + 1 = len-insert total book a s ∙ ap (λ (o : Option Script). cond (is_some o) (len book) (len book + 1)) free in
      omega (arith, grown);
  listed = λ q t e. listed_either book a q s t (eq_by_cmp by_bytes q a) refl new (kept.listed q t) (sym (get-insert total book a s q) ∙ e);
}

pub record Grown (row new : Row) (a : List ℕ) (t : Typed) : Type 0 where
  pub ascend : Ascends new
  pub book : finmap.insert (book_of row) a t.script ≡ book_of new

pub grown : (row new : Row) (a : List ℕ) (t : Typed) (i : ℕ) → Ascends row → IsGap (λ e. e.0) by_bytes row a i → new ≡ insert row i (a, t) → Grown row new a t
grown row new a t i up gap is =
    let put : new ≡ finmap.put by_bytes a t row = is ∙ sym (put-gap total row a i t gap) in
    record { ascend = subst (λ (r : Row). Ascends r) (sym put) (put-ascends row a t up); book = insert-book row a t up ∙ ap book_of (sym put) }

pub one_more_row : (row new : Row) (kind : Ty) (a : List ℕ) (t : Typed) (i : ℕ) → IsRow row kind → IsGap (λ e. e.0) by_bytes row a i → new ≡ insert row i (a, t) → length row < MOST_CONTRACTS → IsListed a t.script → IsRow new kind
one_more_row row new kind a t i kept gap is room listed =
    let g = grown row new a t i kept.ascend gap is in
    record {
      ascend = g.ascend;
      book =
          subst (λ (b : Contracts). IsBook b) g.book
          (one_more_book (book_of row) a t.script kept.book (let count = len-book row kept.ascend in omega (arith, count, room)) (get-gap row a i kept.ascend gap) listed);
      takes_unit = kept.takes_unit;
    }

-- ---- the same scripts

pub same_book : (row new : Row) → map script_entry new ≡ map script_entry row → book_of new ≡ book_of row
same_book row new is = ap (from_sorted {R = by_bytes}) is

pub same_row_kept : (row new : Row) (kind : Ty) → IsRow row kind → map script_entry new ≡ map script_entry row → IsRow new type.Unit
same_row_kept row new kind kept is = record {
  ascend = sym (is_sorted-scripts new) ∙ ap (finmap.is_sorted by_bytes) is ∙ is_sorted-scripts row ∙ kept.ascend;
  book = subst (λ (b : Contracts). IsBook b) (sym (same_book row new is)) kept.book;
  takes_unit = refl;
}

pub same_scripts : (row other : Row) → Ascends row → Ascends other → book_of row ≡ book_of other → map script_entry row ≡ map script_entry other
same_scripts row other up up' is = sym (entries-book row up) ∙ ap entries is ∙ entries-book other up'

-- whether two books are equal, by their rows
pub same_books : (s s' row row' : Row) (book book' : Contracts) (b : Bool) → s ≡ row → s' ≡ row' → Ascends row → Ascends row' → book_of row ≡ book → book_of row' ≡ book' →
    IsTrue b ↔ (map script_entry s ≡ map script_entry s') → IsTrue b ↔ (book ≡ book')
same_books s s' row row' book book' b is is' up up' view view' test = (
  λ yes. sym view ∙ same_book row' row (ap (map script_entry) (sym is) ∙ test.0 yes ∙ ap (map script_entry) is') ∙ view',
  λ same. test.1 (ap (map script_entry) is ∙ same_scripts row row' up up' (view ∙ same ∙ sym view') ∙ ap (map script_entry) (sym is')),
)

-- whether a book is empty, by its row
pub empty_answer : (s row : Row) (book : Contracts) (b : Bool) → s ≡ row → Ascends row → book_of row ≡ book → b ≡ (length s == 0) → IsTrue b ↔ (book ≡ empty)
empty_answer s row book b is up view test = (
  λ yes. sym view ∙ empty_of_length row up (sym (ap length is) ∙ eqb-true (length s) 0 (sym test ∙ yes)),
  λ same. test ∙ eq-eqb (length s) 0 (ap length is ∙ length_of_empty row up (view ∙ same)),
)
