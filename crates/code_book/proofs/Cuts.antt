-- Where the addresses above a given one begin in a row, and the least of them.
use Rattle.std.proofs.Common.{◌≡◌, ℕ, zero, suc, ◌+◌, ◌<◌, ◌≤◌, true, false, cond, List, [], ◌∷◌, length, get_or, Option, Some, None, refl, sym, ap, subst, ◌∙◌, arith, inl, inr}
use Rattle.std.specs.Prelude.{is_some}
use Rattle.std.specs.declared.cmp.Ordering.{Ordering}
use Rattle.std.specs.declared.cmp.Ordering.TheVariants.{Less, Equal, Greater}
use Rattle.std.specs.Option.{option_map}
use Rattle.std.specs.Ordering.{is_eq, eq_by_cmp, ordering_reverse}
use Rattle.std.specs.Cmp.{tied_itself}
use Rattle.std.specs.FinMap.{find, contains_key}
use Rattle.std.proofs.lemmas.Bool.{cases_lt}
use Rattle.value_core.specs.Places.{IsGap, IsPlace}
use Rattle.value_core.proofs.PlaceLemmas.{rises}
use Rattle.michelson_code.specs.declared.typed.Typed.{Typed}
use Rattle.code_book.specs.Successors.{IsAbove, IsNext, NoneAbove}
use Rattle.code_book.specs.Listing.{Row, Ascends, IsCut, book_of}
use Rattle.code_book.proofs.Rows.{by_bytes, total, ties, script_of, get-book, code_at}

-- ---- orders

not_less : (x y : List ℕ) → by_bytes x y ≡ Less → by_bytes y x ≡ Less → ⊥
not_less x y e f = let is : by_bytes y x ≡ Greater = total.antisymm y x ∙ ap ordering_reverse e in let both : Greater ≡ Less = sym is ∙ f in cc

not_itself : (x y : List ℕ) → x ≡ y → by_bytes x y ≡ Less → ⊥
not_itself x y e f = let both : Equal ≡ Less = sym (tied_itself total x) ∙ ap (by_bytes x) e ∙ f in cc

-- ---- where they begin

pub cut_all : (row : Row) → IsCut row None 0
cut_all row = record { below = λ k d lt small. absurd (omega arith); above = λ k d le small. tt }

pub cut_place : (row : Row) (q : List ℕ) (i : ℕ) → Ascends row → IsPlace (λ e. e.0) row q i → IsCut row (Some q) (i + 1)
cut_place row q i up p = record {
  below = λ k d lt small less. elim (cases_lt k i) [
    | inl before ↦ not_less (get_or row k d).0 q (ap (λ x. by_bytes (get_or row k d).0 x) (sym (p.here d)) ∙ rises total row k i d up before p.within) less
    | inr le ↦ let at : k ≡ i = omega arith in not_itself q (get_or row k d).0 (sym (ap (λ n. (get_or row n d).0) at ∙ p.here d)) less
  ];
  above = λ k d le small. ap (λ x. by_bytes x (get_or row k d).0) (sym (p.here d)) ∙ rises total row i k d up (omega arith) small;
}

pub cut_gap : (row : Row) (q : List ℕ) (i : ℕ) → IsGap (λ e. e.0) by_bytes row q i → IsCut row (Some q) i
cut_gap row q i g = record {
  below = λ k d lt small less. not_less (get_or row k d).0 q (g.below k d lt) less;
  above = λ k d le small. total.antisymm q (get_or row k d).0 ∙ ap ordering_reverse (g.above k d le small);
}

-- ---- a contract of the book has a place

record HasPlace (row : Row) (q : List ℕ) : Type 0 where
  at : ℕ
  item : List ℕ × Typed
  within : at < length row
  reads : get_or row at item ≡ item
  here : item.0 ≡ q

tie_of : (r : Ordering) → is_eq r ≡ true → r ≡ Equal
tie_of Less e = absurd cc
tie_of Equal e = refl
tie_of Greater e = absurd cc

placed : (q : List ℕ) (row : Row) → is_some (find by_bytes q row) ≡ true → HasPlace row q
placed q [] e = absurd cc
placed q (x ∷ row) is =
    elim (eq_by_cmp by_bytes q x.0) as (λ b. eq_by_cmp by_bytes q x.0 ≡ b → is_some (cond b (Some x.1) (find by_bytes q row)) ≡ true → HasPlace (x ∷ row) q) [
      | true ↦ λ tied _. record { at = 0; item = x; within = omega arith; reads = refl; here = sym (ties q x.0 (tie_of _ tied)) }
      | false ↦ λ _ rest. let p = placed q row rest in let within : p.at < length row = p.within in record { at = suc p.at; item = p.item; within = omega arith; reads = p.reads; here = p.here }
    ] refl is

is_some-map : (o : Option Typed) → is_some (option_map script_of o) ≡ is_some o
is_some-map None = refl
is_some-map (Some t) = refl

known_place : (row : Row) (q : List ℕ) → Ascends row → contains_key (book_of row) q ≡ true → HasPlace row q
known_place row q up known = placed q row (sym (is_some-map (find by_bytes q row)) ∙ ap is_some (sym (get-book row q up)) ∙ known)

above_at : (row : Row) (given : Option (List ℕ)) (q : List ℕ) (p : HasPlace row q) → IsAbove given q → IsAbove given (get_or row p.at p.item).0
above_at row given q p above = subst (λ a. IsAbove given a) (sym (ap (λ (e : List ℕ × Typed). e.0) p.reads ∙ p.here)) above

-- ---- the least of them

-- what is read at a place doesn't turn on what is read past the end
same_item : (row : Row) (i : ℕ) (x y : List ℕ × Typed) → i < length row → get_or row i x ≡ get_or row i y
same_item [] i x y small = absurd (omega arith)
same_item (e ∷ row) zero x y small = refl
same_item (e ∷ row) (suc i) x y small = same_item row i x y (omega arith)

read_both : (row : Row) (i j : ℕ) (x y : List ℕ × Typed) (q : List ℕ) → Ascends row → i < j → j < length row → get_or row i x ≡ x → get_or row j y ≡ y → y.0 ≡ q → by_bytes x.0 q ≡ Less
read_both row i j x y q up before small first second here =
    let later : (get_or row j x).0 ≡ q = ap (λ (e : List ℕ × Typed). e.0) (same_item row j x y small ∙ second) ∙ here in
    (λ k. by_bytes (sym first k).0 (sym later k)) ∙ rises total row i j x up before small

one_item : (row : Row) (i j : ℕ) (x y : List ℕ × Typed) → i ≡ j → i < length row → get_or row i x ≡ x → get_or row j y ≡ y → x.0 ≡ y.0
one_item row i j x y same small first second =
    ap (λ (e : List ℕ × Typed). e.0) (sym first ∙ same_item row i x y small ∙ ap (λ n. get_or row n y) same ∙ second)

least_at : (row : Row) (given : Option (List ℕ)) (i : ℕ) (x : List ℕ × Typed) → Ascends row → IsCut row given i → i < length row → get_or row i x ≡ x →
    (other : List ℕ) → contains_key (book_of row) other ≡ true → IsAbove given other → by_bytes other x.0 ≡ Less → ⊥
least_at row given i x up cut within is other known above less =
    let p = known_place row other up known in
    let place_within : p.at < length row = p.within in
    elim (cases_lt p.at i) [
      | inl before ↦ cut.below p.at p.item before p.within (above_at row given other p above)
      | inr le ↦ elim (cases_lt i p.at) [
        | inl behind ↦ absurd (not_less x.0 other (read_both row i p.at x p.item other up behind place_within is p.reads p.here) less)
        | inr back ↦ let same : p.at ≡ i = omega arith in not_itself other x.0 (sym p.here ∙ one_item row p.at i p.item x same place_within p.reads is) less
      ]
    ]

pub next_at : (s row : Row) (given : Option (List ℕ)) (i : ℕ) (x : List ℕ × Typed) → s ≡ row → Ascends row → IsCut s given i → i < length s → x ≡ get_or s i x → IsNext (book_of row) given x.0 x.1.script
next_at s row given i x same up cut within read =
    subst (λ (r : Row). Ascends r → IsNext (book_of r) given x.0 x.1.script) same
    (λ ascend. record {
      stands = sym (code_at s s x.0 i x refl ascend (record { within = within; here = λ d. ap (λ (y : List ℕ × Typed). y.0) (same_item s i d x within ∙ sym read) }) read);
      above = subst (λ (y : List ℕ × Typed). IsAbove given y.0) (sym read) (cut.above i x (omega arith) within);
      least = least_at s given i x ascend cut within (sym read);
    }) up

pub none_at : (s row : Row) (given : Option (List ℕ)) (i : ℕ) → s ≡ row → Ascends row → IsCut s given i → length s ≤ i → NoneAbove (book_of row) given
none_at s row given i same up cut past =
    subst (λ (r : Row). Ascends r → NoneAbove (book_of r) given) same
    (λ ascend other known above.
    let p = known_place s other ascend known in
    let within : p.at < length s = p.within in
    cut.below p.at p.item (omega arith) within (above_at s given other p above)) up
