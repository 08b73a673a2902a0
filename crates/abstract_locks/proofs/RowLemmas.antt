-- What a row has once a place is added, taken away or given a mode, and that it is a row still.
use Rattle.std.proofs.Common.{◌≡◌, ℕ, Bool, true, false, cond, get_or, set, Option, Some, None, refl, sym, ap, subst, ◌∙◌}
use Rattle.std.specs.Prelude.{◌==◌, IsTrue, IsSome, is_some, insert, remove, not}
use Rattle.std.specs.Ordering.{nat_cmp, is_eq, eq_by_cmp}
use Rattle.std.specs.Cmp.{alike_right, eq_by_cmp_equiv}
use Rattle.std.specs.FinMap.{put, is_sorted}
use Rattle.std.specs.FinMap.Entries.{where_key, is_sorted-put, is_sorted-where_key, find-put, find-where_key}
use Rattle.std.proofs.lemmas.Cmp.{nat_cmp_total}
use Rattle.std.proofs.lemmas.Bool.{eqb-true}
use Rattle.value_core.specs.Places.{IsGap, IsPlace}
use Rattle.value_core.proofs.PlaceLemmas.{rises, find-place, find-gap, put-place, put-gap, removed-place}
use Rattle.value_core.proofs.Bools.{T_of, true_of}
use Rattle.cell_names.specs.declared.mode.Mode.{Mode}
use Rattle.cell_names.specs.Footprints.{further}
use Rattle.abstract_locks.specs.Holders.{asked, IsFree}
use Rattle.abstract_locks.specs.Tables.{Row, place_in, mode_at, holders_in}
use Rattle.abstract_locks.specs.Rows.{IsRow}
use Rattle.abstract_locks.proofs.ModeLemmas.{same_ticket, free_of, apart_with, apart_without, apart_still}

abbrev ticket_of : ℕ × Option Mode → ℕ
ticket_of p = p.0

-- ---- where a ticket stands

pub at_place : (s row : Row) (t i : ℕ) (x : ℕ × Option Mode) → s ≡ row → IsRow row → IsPlace ticket_of s t i → x ≡ get_or row i x → Some x.1 ≡ place_in row t
at_place s row t i x same is p read =
    let here : IsPlace ticket_of row t i = subst (λ (l : Row). IsPlace ticket_of l t i) same p in
    ap (λ (y : ℕ × Option Mode). Some y.1) read ∙ sym (find-place nat_cmp_total row t i x is.ascends here)

pub at_gap : (s row : Row) (t i : ℕ) → s ≡ row → IsGap ticket_of nat_cmp s t i → None ≡ place_in row t
at_gap s row t i same g = sym (find-gap nat_cmp_total row t i (subst (λ (l : Row). IsGap ticket_of nat_cmp l t i) same g))

-- a place with nothing has no room
pub no_room : (o : Option (Option Mode)) → o ≡ None → IsSome o → ⊥
no_room o none room = let never : true ≡ false = sym room ∙ ap is_some none in cc

pub not_placed : (s row : Row) (t i : ℕ) → s ≡ row → IsRow row → IsPlace ticket_of s t i → place_in row t ≡ None → ⊥
not_placed s row t i same is p none =
    let here : IsPlace ticket_of row t i = subst (λ (l : Row). IsPlace ticket_of l t i) same p in
    no_room (place_in row t) none (ap is_some (find-place nat_cmp_total row t i (0, None) is.ascends here))

-- ---- a place that is put

placed : (row : Row) (t : ℕ) (v : Option Mode) (n : ℕ) → place_in (put nat_cmp t v row) n ≡ cond (n == t) (Some v) (place_in row n)
placed row t v n = find-put nat_cmp nat_cmp_total n t v row ∙ ap (λ b. cond b (Some v) (place_in row n)) (same_ticket n t)

put_ascends : (row : Row) (t : ℕ) (v : Option Mode) → IsRow row → IsTrue (is_sorted nat_cmp (put nat_cmp t v row))
put_ascends row t v is = true_of _ (is_sorted-put nat_cmp nat_cmp_total t v row (T_of _ is.ascends))

pub inserted : (s row new : Row) (t i : ℕ) → s ≡ row → IsGap ticket_of nat_cmp s t i → new ≡ insert row i (t, None) → new ≡ put nat_cmp t None row
inserted s row new t i same g is = is ∙ sym (put-gap nat_cmp_total row t i None (subst (λ (l : Row). IsGap ticket_of nat_cmp l t i) same g))

pub replaced : (s row : Row) (t i : ℕ) (y : ℕ × Option Mode) (v : Option Mode) → s ≡ row → IsRow row → IsPlace ticket_of s t i → y ≡ get_or row i y → set row i (y.0, v) ≡ put nat_cmp t v row
replaced s row t i y v same is p read =
    let here : IsPlace ticket_of row t i = subst (λ (l : Row). IsPlace ticket_of l t i) same p in
    let key : y.0 ≡ t = ap ticket_of read ∙ here.here y in
    ap (λ (k : ℕ). set row i (k, v)) key ∙ sym (put-place nat_cmp_total row t i v is.ascends here)

-- ---- a place with no mode yet

pub added : (row new : Row) (t : ℕ) → new ≡ put nat_cmp t None row → (n : ℕ) → place_in new n ≡ cond (n == t) (Some None) (place_in row n)
added row new t is n = ap (λ (l : Row). place_in l n) is ∙ placed row t None n

holds_none : (b : Bool) (o : Option (Option Mode)) → (b ≡ true → o ≡ None) → mode_at (cond b (Some None) o) ≡ mode_at o
holds_none true o none = sym (ap mode_at (none refl))
holds_none false o none = refl

pub added_is_row : (row new : Row) (t : ℕ) → IsRow row → place_in row t ≡ None → new ≡ put nat_cmp t None row → IsRow new
added_is_row row new t is none made = record {
  ascends = subst (λ (l : Row). IsTrue (is_sorted nat_cmp l)) (sym made) (put_ascends row t None is);
  apart = apart_still (holders_in row) (holders_in new) is.apart
      (λ n. ap mode_at (added row new t made n) ∙ holds_none (n == t) (place_in row n) (λ e. ap (place_in row) (eqb-true n t e) ∙ none));
}

-- ---- a place with another mode

-- what the ticket holds next, by what stands at its place
pub next_mode : (row : Row) (t : ℕ) (x : ℕ × Option Mode) (m a : Mode) → Some x.1 ≡ place_in row t → a ≡ further x.1 m → a ≡ asked (holders_in row) t m
next_mode row t x m a at is = is ∙ ap (λ (o : Option (Option Mode)). further (mode_at o) m) at

pub given : (row new : Row) (t : ℕ) (a : Mode) → new ≡ put nat_cmp t (Some a) row → (n : ℕ) → place_in new n ≡ cond (n == t) (Some (Some a)) (place_in row n)
given row new t a is n = ap (λ (l : Row). place_in l n) is ∙ placed row t (Some a) n

-- the same, said of the row as it was seen
pub given_seen : (row seen new : Row) (t : ℕ) (m a : Mode) → row ≡ seen → a ≡ asked (holders_in row) t m → new ≡ put nat_cmp t (Some a) row →
    (n : ℕ) → place_in new n ≡ cond (n == t) (Some (Some (asked (holders_in seen) t m))) (place_in seen n)
given_seen row seen new t m a same mode made n =
    given row new t a made n ∙ (λ k. cond (n == t) (Some (Some ((mode ∙ ap (λ (l : Row). asked (holders_in l) t m) same) k))) (place_in (same k) n))

pub mode_of_given : (b : Bool) (o : Option (Option Mode)) (a : Mode) → mode_at (cond b (Some (Some a)) o) ≡ cond b (Some a) (mode_at o)
mode_of_given true o a = refl
mode_of_given false o a = refl

pub given_is_row : (row new : Row) (t : ℕ) (m a : Mode) → IsRow row → IsFree (holders_in row) t m → a ≡ asked (holders_in row) t m → new ≡ put nat_cmp t (Some a) row → IsRow new
given_is_row row new t m a is free mode made = record {
  ascends = subst (λ (l : Row). IsTrue (is_sorted nat_cmp l)) (sym made) (put_ascends row t (Some a) is);
  apart = apart_with (holders_in row) (holders_in new) t (asked (holders_in row) t m) is.apart (free_of (holders_in row) t m free)
      (λ n. ap mode_at (given row new t a made n) ∙ mode_of_given (n == t) (place_in row n) a ∙ ap (λ k. cond (n == t) (Some k) (holders_in row n)) mode);
}

-- ---- a place that is taken away

abbrev other : ℕ → ℕ → Bool
other t n = not (eq_by_cmp nat_cmp t n)

pub removed : (s row new : Row) (t i : ℕ) → s ≡ row → IsRow row → IsPlace ticket_of s t i → new ≡ remove row i → new ≡ where_key nat_cmp (other t) row
removed s row new t i same is p made =
    made ∙ sym (removed-place nat_cmp_total ticket_of row t i (λ j k d lt small. rises nat_cmp_total row j k d is.ascends lt small) (subst (λ (l : Row). IsPlace ticket_of l t i) same p))

turned_test : (b : Bool) (o : Option (Option Mode)) → cond (not b) o None ≡ cond b None o
turned_test true o = refl
turned_test false o = refl

pub left : (row new : Row) (t : ℕ) → new ≡ where_key nat_cmp (other t) row → (n : ℕ) → place_in new n ≡ cond (n == t) None (place_in row n)
left row new t is n =
    ap (λ (l : Row). place_in l n) is
    ∙ find-where_key nat_cmp (other t) n (λ x tie. ap (λ r. not (is_eq r)) (sym (alike_right nat_cmp_total n x t tie))) row
    ∙ turned_test (eq_by_cmp nat_cmp t n) (place_in row n)
    ∙ ap (λ b. cond b None (place_in row n)) ((eq_by_cmp_equiv nat_cmp_total).symm t n ∙ same_ticket n t)

pub mode_of_left : (b : Bool) (o : Option (Option Mode)) → mode_at (cond b None o) ≡ cond b None (mode_at o)
mode_of_left true o = refl
mode_of_left false o = refl

pub left_is_row : (row new : Row) (t : ℕ) → IsRow row → new ≡ where_key nat_cmp (other t) row → IsRow new
left_is_row row new t is made = record {
  ascends = subst (λ (l : Row). IsTrue (is_sorted nat_cmp l)) (sym made) (true_of _ (is_sorted-where_key nat_cmp (other t) row (T_of _ is.ascends)));
  apart = apart_without (holders_in row) (holders_in new) t is.apart (λ n. ap mode_at (left row new t made n) ∙ mode_of_left (n == t) (place_in row n));
}

-- a ticket with no place leaves nothing changed
pub left_none : (row : Row) (t : ℕ) → place_in row t ≡ None → (n : ℕ) → place_in row n ≡ cond (n == t) None (place_in row n)
left_none row t none n = elim (n == t) as (λ b. (n == t) ≡ b → place_in row n ≡ cond b None (place_in row n)) [
  | true ↦ λ e. ap (place_in row) (eqb-true n t e) ∙ none
  | false ↦ λ e. refl
] refl
