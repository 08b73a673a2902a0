-- Rows of contracts as books: what stands in one, how many there are, and what one more leaves.
use Rattle.std.proofs.Common.{◌≡◌, ℕ, suc, true, false, cond, ◌&&◌, List, [], ◌∷◌, map, length, get_or, Some, None, refl, sym, ap, subst, ◌∙◌}
use Rattle.std.specs.declared.cmp.Ordering.{Ordering}
use Rattle.std.specs.declared.cmp.Ordering.TheVariants.{Less, Equal, Greater}
use Rattle.std.specs.Option.{option_map}
use Rattle.std.specs.Ordering.{nat_cmp, is_lt, eq_by_cmp}
use Rattle.std.specs.Cmp.{IsTotalOrder}
use Rattle.std.specs.Cmp.Lexicographic.{slice_cmp, nat_list_cmp_total}
use Rattle.std.specs.FinMap.{IsAntisymmetric, nat_cmp-IsAntisymmetric, slice_cmp-IsAntisymmetric, find, put, is_sorted, get, entries, len, empty, empty_of_len, entries-from_sorted, entries-insert, get-from_sorted, len-entries, same_entries_map}
use Rattle.std.specs.FinMap as finmap
use Rattle.std.specs.FinMap.Entries.{below_all, by_order, is_sorted-put}
use Rattle.value_core.specs.Places.{IsGap, IsPlace}
use Rattle.value_core.proofs.PlaceLemmas.{find-gap, find-place}
use Rattle.value_core.proofs.Bools.{T_of, true_of}
use Rattle.michelson_code.specs.declared.script.Script.{Script}
use Rattle.michelson_code.specs.declared.typed.Typed.{Typed}
use Rattle.code_book.specs.Listing.{Row, Ascends, script_entry, book_of}

abbrev pub by_bytes : List ℕ → List ℕ → Ordering
by_bytes = slice_cmp nat_cmp

pub total : IsTotalOrder by_bytes
total = nat_list_cmp_total

pub ties : IsAntisymmetric by_bytes
ties = slice_cmp-IsAntisymmetric nat_cmp-IsAntisymmetric

-- the script of a contract
abbrev pub script_of : Typed → Script
script_of t = t.script

-- ---- the scripts of a row

below_all-scripts : (x : List ℕ) (row : Row) → below_all by_bytes x (map script_entry row) ≡ below_all by_bytes x row
below_all-scripts x [] = refl
below_all-scripts x (e ∷ row) = ap (λ b. is_lt (by_bytes x e.0) && b) (below_all-scripts x row)

pub is_sorted-scripts : (row : Row) → is_sorted by_bytes (map script_entry row) ≡ is_sorted by_bytes row
is_sorted-scripts [] = refl
is_sorted-scripts (e ∷ row) = λ i. below_all-scripts e.0 row i && is_sorted-scripts row i

find-scripts : (q : List ℕ) (row : Row) → find by_bytes q (map script_entry row) ≡ option_map script_of (find by_bytes q row)
find-scripts q [] = refl
find-scripts q (e ∷ row) =
    elim (eq_by_cmp by_bytes q e.0) as (λ b. cond b (Some e.1.script) (find by_bytes q (map script_entry row)) ≡ option_map script_of (cond b (Some e.1) (find by_bytes q row))) [
      | true ↦ refl
      | false ↦ find-scripts q row
    ]

put-scripts : (k : List ℕ) (t : Typed) (row : Row) → put by_bytes k t.script (map script_entry row) ≡ map script_entry (put by_bytes k t row)
put-scripts k t [] = refl
put-scripts k t (e ∷ row) =
    let scripts = map script_entry row in
    elim (by_bytes k e.0) as (λ r. by_order r ((k, t.script) ∷ script_entry e ∷ scripts) ((e.0, t.script) ∷ scripts) (script_entry e ∷ put by_bytes k t.script scripts)
    ≡ map script_entry (by_order r ((k, t) ∷ e ∷ row) ((e.0, t) ∷ row) (e ∷ put by_bytes k t row))) [
      | Less ↦ refl
      | Equal ↦ refl
      | Greater ↦ ap (λ l. script_entry e ∷ l) (put-scripts k t row)
    ]

length-scripts : (row : Row) → length (map script_entry row) ≡ length row
length-scripts [] = refl
length-scripts (e ∷ row) = ap (λ n. suc n) (length-scripts row)

-- ---- the book of a row

scripts_ascend : (row : Row) → Ascends row → is_sorted by_bytes (map script_entry row) ≡ true
scripts_ascend row up = is_sorted-scripts row ∙ up

pub entries-book : (row : Row) → Ascends row → entries (book_of row) ≡ map script_entry row
entries-book row up = entries-from_sorted by_bytes (map script_entry row) (T_of _ (scripts_ascend row up))

pub get-book : (row : Row) (q : List ℕ) → Ascends row → get (book_of row) q ≡ option_map script_of (find by_bytes q row)
get-book row q up = get-from_sorted by_bytes (map script_entry row) q (T_of _ (scripts_ascend row up)) ∙ find-scripts q row

pub len-book : (row : Row) → Ascends row → len (book_of row) ≡ length row
len-book row up = len-entries (book_of row) ∙ ap length (entries-book row up) ∙ length-scripts row

pub book-nothing : book_of [] ≡ empty
book-nothing = empty_of_len (book_of []) (len-book [] refl)

-- ---- what stands at a place

pub get-place : (row : Row) (q : List ℕ) (i : ℕ) (d : List ℕ × Typed) → Ascends row → IsPlace (λ e. e.0) row q i → get (book_of row) q ≡ Some (get_or row i d).1.script
get-place row q i d up p = get-book row q up ∙ ap (option_map script_of) (find-place total row q i d up p)

pub get-gap : (row : Row) (q : List ℕ) (i : ℕ) → Ascends row → IsGap (λ e. e.0) by_bytes row q i → get (book_of row) q ≡ None
get-gap row q i up g = get-book row q up ∙ ap (option_map script_of) (find-gap total row q i g)

-- the same, read from a slice that is the row
pub code_at : (s row : Row) (q : List ℕ) (i : ℕ) (x : List ℕ × Typed) → s ≡ row → Ascends row → IsPlace (λ e. e.0) s q i → x ≡ get_or row i x → Some x.1.script ≡ get (book_of row) q
code_at s row q i x same up p read =
    let here : IsPlace (λ e. e.0) row q i = subst (λ (r : Row). IsPlace (λ (e : List ℕ × Typed). e.0) r q i) same p in
    ap (λ (e : List ℕ × Typed). Some e.1.script) read ∙ sym (get-place row q i x up here)

pub code_none : (s row : Row) (q : List ℕ) (i : ℕ) → s ≡ row → Ascends row → IsGap (λ e. e.0) by_bytes s q i → None ≡ get (book_of row) q
code_none s row q i same up g = sym (get-gap row q i up (subst (λ (r : Row). IsGap (λ (e : List ℕ × Typed). e.0) by_bytes r q i) same g))

-- ---- one more contract

pub put-ascends : (row : Row) (k : List ℕ) (t : Typed) → Ascends row → Ascends (put by_bytes k t row)
put-ascends row k t up = true_of _ (is_sorted-put by_bytes total k t row (T_of _ up))

pub insert-book : (row : Row) (k : List ℕ) (t : Typed) → Ascends row → finmap.insert (book_of row) k t.script ≡ book_of (put by_bytes k t row)
insert-book row k t up =
    same_entries_map _ _
    (entries-insert total (book_of row) k t.script
    ∙ ap (put by_bytes k t.script) (entries-book row up)
    ∙ put-scripts k t row
    ∙ sym (entries-book (put by_bytes k t row) (put-ascends row k t up)))
