-- What all rows have once the row of one cell is another, and who holds what then.
use Rattle.std.proofs.Common.{◌≡◌, ℕ, Bool, true, false, cond, [], Option, Some, None, Result, Ok, Err, refl, sym, ap, subst, ◌∙◌, eq-eqb}
use Rattle.std.specs.Prelude.{◌≢◌, ◌==◌, ◌&&◌, ◌↔◌, IsTrue, IsSome, OnErr}
use Rattle.std.specs.Map.{lookup}
use Rattle.std.specs.declared.cmp.Ordering.{Ordering}
use Rattle.std.specs.declared.cmp.Ordering.TheVariants.{Less, Equal, Greater}
use Rattle.std.specs.Ordering.{is_eq}
use Rattle.std.specs.Cmp.{eq_by_cmp_equiv}
use Rattle.std.proofs.lemmas.Bool.{eqb-true}
use Rattle.value_core.proofs.Bools.{first_true, second_true, both_true}
use Rattle.cell_names.specs.declared.cell.Cell.{Cell}
use Rattle.cell_names.specs.declared.mode.Mode.{Mode}
use Rattle.cell_names.specs.Cells.{cell_cmp}
use Rattle.cell_names.specs.CellOrder.{cell_cmp-total, cell_cmp-ties}
use Rattle.abstract_locks.specs.Holders.{Holders, AreApart, asked, IsFree}
use Rattle.abstract_locks.specs.Tables.{Row, Table, is_one, row_of, row_at, place_in, mode_at, held, HasRoom, locked}
use Rattle.abstract_locks.specs.Laws.{IsGrant}
use Rattle.abstract_locks.proofs.ModeLemmas.{unequal, free_of, apart_with}
use Rattle.abstract_locks.proofs.RowLemmas.{mode_of_given}

-- ---- cells

tie_of : (r : Ordering) → is_eq r ≡ true → r ≡ Equal
tie_of Less e = cc
tie_of Equal e = refl
tie_of Greater e = cc

pub one_from : (c d : Cell) → is_one c d ≡ true → c ≡ d
one_from c d e = cell_cmp-ties c d (tie_of (cell_cmp c d) e)

pub is_one-self : (c : Cell) → is_one c c ≡ true
is_one-self c = (eq_by_cmp_equiv cell_cmp-total).refl c

pub is_one-apart : (c d : Cell) → c ≢ d → is_one c d ≡ false
is_one-apart c d apart = elim (is_one c d) as (λ b. is_one c d ≡ b → b ≡ false) [ true ↦ λ e. absurd (apart (one_from c d e)) | false ↦ λ e. refl ] refl

-- ---- one row is another

-- the table has another row at the cell, or none
abbrev pub HasAt : Table → Table → Cell → Option Row → Type 0
HasAt old new c o = (d : Cell) → lookup (is_one d) new ≡ cond (is_one c d) o (lookup (is_one d) old)

rows_at : (b : Bool) (o was : Option Row) (row : Row) (t : ℕ) (v : Option (Option Mode)) (n : ℕ) → (b ≡ true → row_of was ≡ row) → ((k : ℕ) → place_in (row_of o) k ≡ cond (k == t) v (place_in row k)) →
    place_in (row_of (cond b o was)) n ≡ cond (b && (n == t)) v (place_in (row_of was) n)
rows_at true o was row t v n same is = is n ∙ ap (λ (l : Row). cond (n == t) v (place_in l n)) (sym (same refl))
rows_at false o was row t v n same is = refl

pub one_row : (old new : Table) (c : Cell) (row : Row) (o : Option Row) (t : ℕ) (v : Option (Option Mode)) → row_at old c ≡ row → HasAt old new c o → ((k : ℕ) → place_in (row_of o) k ≡ cond (k == t) v (place_in row k)) →
    (d : Cell) (n : ℕ) → place_in (row_at new d) n ≡ cond (is_one c d && (n == t)) v (place_in (row_at old d) n)
one_row old new c row o t v was has is d n =
    ap (λ (x : Option Row). place_in (row_of x) n) (has d)
    ∙ rows_at (is_one c d) o (lookup (is_one d) old) row t v n (λ e. ap (row_at old) (sym (one_from c d e)) ∙ was) is

same_rows : (b : Bool) (o was : Option Row) → (b ≡ true → row_of was ≡ row_of o) → row_of (cond b o was) ≡ row_of was
same_rows true o was same = sym (same refl)
same_rows false o was same = refl

-- the row that is put is the one that was there
pub no_row : (old new : Table) (c : Cell) (o : Option Row) → row_at old c ≡ row_of o → HasAt old new c o → (d : Cell) → row_at new d ≡ row_at old d
no_row old new c o was has d =
    ap row_of (has d) ∙ same_rows (is_one c d) o (lookup (is_one d) old) (λ e. ap (row_at old) (sym (one_from c d e)) ∙ was)

-- a cell with no row has no place to be taken away
kept_none : (b : Bool) (o : Option (Option Mode)) → (b ≡ true → o ≡ None) → o ≡ cond b None o
kept_none true o none = none refl
kept_none false o none = refl

pub left_nothing : (old new : Table) (c : Cell) (t : ℕ) → new ≡ old → row_at old c ≡ [] → (d : Cell) (n : ℕ) → place_in (row_at new d) n ≡ cond (is_one c d && (n == t)) None (place_in (row_at old d) n)
left_nothing old new c t same none d n =
    ap (λ (table : Table). place_in (row_at table d) n) same
    ∙ kept_none (is_one c d && (n == t)) (place_in (row_at old d) n)
    (λ e. ap (λ (x : Cell). place_in (row_at old x) n) (sym (one_from c d (first_true _ _ e))) ∙ ap (λ (row : Row). place_in row n) none)

-- ---- answers

pub on_err : {A E : Type 0} (P : Type 0) (r : Result A E) → P → OnErr r P
on_err P (Ok x) p = tt
on_err P (Err e) p = p

pub no_place : (b : Bool) (o : Option (Option Mode)) → b ≡ false → IsTrue b ↔ IsSome o → o ≡ None
no_place b None e test = refl
no_place b (Some x) e test = absurd (let yes : b ≡ true = test.1 refl in cc)

-- ---- who holds what

-- places at which what stands changed for one ticket at one cell
abbrev pub HasPlace : Table → Table → Cell → ℕ → Option (Option Mode) → Type 0
HasPlace old new c t v = (d : Cell) (n : ℕ) → place_in (row_at new d) n ≡ cond (is_one c d && (n == t)) v (place_in (row_at old d) n)

reserved_at : (b : Bool) (o : Option (Option Mode)) → (b ≡ true → o ≡ None) → mode_at (cond b (Some None) o) ≡ mode_at o
reserved_at true o none = sym (ap mode_at (none refl))
reserved_at false o none = refl

pub reserved : (old new : Table) (c : Cell) (t : ℕ) → place_in (row_at old c) t ≡ None → HasPlace old new c t (Some None) → held new ≡ held old
reserved old new c t none has = λ i d n. (ap mode_at (has d n)
    ∙ reserved_at (is_one c d && (n == t)) (place_in (row_at old d) n)
    (λ e. (λ k. place_in (row_at old (sym (one_from c d (first_true _ _ e)) k)) (eqb-true n t (second_true _ _ e) k)) ∙ none)) i

pub same_held : (old new : Table) → ((d : Cell) → row_at new d ≡ row_at old d) → held new ≡ held old
same_held old new same = λ i d n. mode_at (place_in (same d i) n)

pub granted : (old new : Table) (c : Cell) (t : ℕ) (m : Mode) → HasPlace old new c t (Some (Some (asked (held old c) t m))) → held new ≡ locked (held old) c t m
granted old new c t m has = λ i d n. (ap mode_at (has d n) ∙ mode_of_given (is_one c d && (n == t)) (place_in (row_at old d) n) (asked (held old c) t m)) i

pub room_made : (old new : Table) (c : Cell) (t : ℕ) (v : Option Mode) → HasPlace old new c t (Some v) → HasRoom new c t
room_made old new c t v has =
    subst (λ (o : Option (Option Mode)). IsSome o)
    (sym (has c t ∙ ap (λ b. cond b (Some v) (place_in (row_at old c) t)) (both_true (is_one c c) (t == t) (is_one-self c) (eq-eqb t t refl)))) refl

-- ---- laws of a grant

pub is_grant : (h : Cell → Holders) (c : Cell) (t : ℕ) (m : Mode) → IsGrant h (locked h c t m) c t m
is_grant h c t m = record {
  here = ap (λ b. cond b (Some (asked (h c) t m)) (h c t)) (both_true (is_one c c) (t == t) (is_one-self c) (eq-eqb t t refl));
  tickets = λ d n ne. ap (λ b. cond (is_one c d && b) (Some (asked (h c) t m)) (h d n)) (unequal n t ne) ∙ other_ticket (is_one c d) (Some (asked (h c) t m)) (h d n);
  cells = λ d n ne. ap (λ b. cond (b && (n == t)) (Some (asked (h c) t m)) (h d n)) (is_one-apart c d (λ e. ne (sym e)));
}
  where
    other_ticket : (b : Bool) (x y : Option Mode) → cond (b && false) x y ≡ y
    other_ticket true x y = refl
    other_ticket false x y = refl

apart_cell : (b : Bool) (h : Cell → Holders) (c d : Cell) (t : ℕ) (m : Mode) → is_one c d ≡ b → AreApart (h d) → AreApart (h c) → IsFree (h c) t m → AreApart (λ n. cond (b && (n == t)) (Some (asked (h c) t m)) (h d n))
apart_cell true h c d t m one apart at free =
    apart_with (h c) (λ n. cond (n == t) (Some (asked (h c) t m)) (h d n)) t (asked (h c) t m) at (free_of (h c) t m free)
    (λ n. ap (λ (x : Cell). cond (n == t) (Some (asked (h c) t m)) (h x n)) (sym (one_from c d one)))
apart_cell false h c d t m one apart at free = apart

pub still_apart : (h : Cell → Holders) (c : Cell) (t : ℕ) (m : Mode) → ((d : Cell) → AreApart (h d)) → IsFree (h c) t m → (d : Cell) → AreApart (locked h c t m d)
still_apart h c t m apart free d = apart_cell (is_one c d) h c d t m refl (apart d) (apart c) free
