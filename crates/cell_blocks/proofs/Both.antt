-- Balances and the other cells behind them as one list: where a cell stands.
use Rattle.std.proofs.Common.{◌≡◌, ℕ, zero, suc, ◌+◌, ◌<◌, ◌≤◌, List, [], ◌∷◌, map, length, get_or, Result, Ok, Err, sym, ap, subst, ◌∙◌, arith, zero-add}
use Rattle.std.specs.Prelude.{IsTrue}
use Rattle.std.specs.declared.cmp.Ordering.TheVariants.{Less, Greater}
use Rattle.std.specs.Ordering.{is_lt}
use Rattle.std.specs.List.Sorted.{IsSortedBy}
use Rattle.std.specs.FinMap.{is_sorted}
use Rattle.std.proofs.Math.ListN.{get_or-map}
use Rattle.std.proofs.lemmas.List.{length-map, length-append}
use Rattle.value_core.specs.Places.{IsGap, IsPlace, StandsAt}
use Rattle.value_core.proofs.PlaceLemmas.{sorted_by}
use Rattle.cell_names.specs.declared.cell.Cell.{Cell}
use Rattle.cell_names.specs.declared.cell.Cell.TheVariants.{Balance}
use Rattle.cell_names.specs.Cells.{kind_of, cell_cmp}
use Rattle.cell_names.specs.CellOrder.{cell_cmp-total}
use Rattle.cell_blocks.specs.declared.holding.Holding.{Holding}
use Rattle.cell_blocks.specs.Blocks.{Held, held_by, all_of, AreBlocks}
use Rattle.cell_blocks.proofs.CellOrders.{balance_below, other_above}
use Rattle.cell_blocks.proofs.Ascending.{ascends_front, ascends_back}

abbrev pub cell_of : Held → Cell
cell_of e = e.0

abbrev pub balance_of : Holding → Cell
balance_of h = (held_by h).0

-- ---- both ascend

pub balances_ascend : (bs : List Holding) (os : List Held) → AreBlocks bs os → IsTrue (is_sorted cell_cmp (map held_by bs))
balances_ascend bs os are = ascends_front cell_cmp-total (map held_by bs) os are.ascend

pub others_ascend : (bs : List Holding) (os : List Held) → AreBlocks bs os → IsTrue (is_sorted cell_cmp os)
others_ascend bs os are = ascends_back cell_cmp-total (map held_by bs) os are.ascend

pub balances_sorted_by : (bs : List Holding) → IsTrue (is_sorted cell_cmp (map held_by bs)) → IsSortedBy (λ a b. is_lt (cell_cmp (balance_of a) (balance_of b))) bs
balances_sorted_by bs up k d low high =
    let within : k + 1 < length (map held_by bs) = omega (arith, length-map bs held_by) in
    let rising = sorted_by cell_cmp-total (map held_by bs) up k (held_by d) low within in
    (λ i. is_lt (cell_cmp (cell_of (sym (get_or-map held_by bs (k + 1) d) i)) (cell_of (sym (get_or-map held_by bs k d) i)))) ∙ rising

pub length_all : (bs : List Holding) (os : List Held) → length (all_of bs os) ≡ length bs + length os
length_all bs os = length-append (map held_by bs) os ∙ ap (λ n. n + length os) (length-map bs held_by)

-- ---- each item of both, by its place

next_place : (n j : ℕ) → suc n + j ≡ suc (n + j)
next_place n j = omega arith

each_of : (P : ℕ → Held → Type 0) (bs : List Holding) (os : List Held) → ((k : ℕ) (d : Holding) → k < length bs → P k (held_by (get_or bs k d))) → ((k : ℕ) (d : Held) → k < length os → P (length bs + k) (get_or os k d)) →
    (k : ℕ) (d : Held) → k < length bs + length os → P k (get_or (all_of bs os) k d)
each_of P [] os front back k d lt = subst (λ n. P n (get_or os k d)) (zero-add k) (back k d (omega arith))
each_of P (h ∷ bs) os front back zero d lt = front 0 h (omega arith)
each_of P (h ∷ bs) os front back (suc k) d lt =
    each_of (λ j. P (suc j)) bs os (λ j e small. front (suc j) e (omega arith))
    (λ j e small. subst (λ n. P n (get_or os j e)) (next_place (length bs) j) (back j e small)) k d (omega arith)

-- ---- where a balance stands

place_front : (bs : List Holding) (os : List Held) (q : Cell) (i : ℕ) → IsPlace balance_of bs q i → IsPlace cell_of (all_of bs os) q i
place_front [] os q i p = let within : i < 0 = p.within in absurd (omega arith)
place_front (h ∷ bs) os q zero p = record { within = omega arith; here = λ d. p.here h }
place_front (h ∷ bs) os q (suc i) p =
    let outer : suc i < length (h ∷ bs) = p.within in
    let r = place_front bs os q i (record { within = omega arith; here = λ d. p.here d }) in
    let inner : i < length (all_of bs os) = r.within in
    record { within = omega arith; here = λ d. r.here d }

gap_front : (bs : List Holding) (os : List Held) (q : Cell) (i : ℕ) → ((k : ℕ) (d : Held) → k < length os → cell_cmp (get_or os k d).0 q ≡ Greater) → IsGap balance_of cell_cmp bs q i → IsGap cell_of cell_cmp (all_of bs os) q i
gap_front bs os q i behind g =
    let edge : i ≤ length bs = g.within in
    record {
      within = omega (arith, length_all bs os);
      below = λ k d lt. each_of (λ n e. n < i → cell_cmp e.0 q ≡ Less) bs os (λ n e small before. g.below n e before) (λ n e small before. absurd (omega arith)) k d (omega arith) lt;
      above = λ k d le lt. each_of (λ n e. i ≤ n → cell_cmp e.0 q ≡ Greater) bs os (λ n e small past. g.above n e past small) (λ n e small past. behind n e small) k d (omega (arith, length_all bs os)) le;
    }

pub place_of_balance : (bs : List Holding) (os : List Held) (a : List ℕ) (i : ℕ) → IsPlace balance_of bs (Balance a) i → IsPlace cell_of (all_of bs os) (Balance a) i
place_of_balance bs os a i p = place_front bs os (Balance a) i p

pub balance_stands : (bs : List Holding) (os : List Held) (a : List ℕ) (r : Result ℕ ℕ) → AreBlocks bs os → StandsAt balance_of cell_cmp bs (Balance a) r → StandsAt cell_of cell_cmp (all_of bs os) (Balance a) r
balance_stands bs os a (Ok i) are p = place_front bs os (Balance a) i p
balance_stands bs os a (Err i) are g = gap_front bs os (Balance a) i (λ k d lt. other_above a (get_or os k d).0 (are.behind k d lt)) g

-- ---- where another cell stands

place_behind : (bs : List Holding) (os : List Held) (q : Cell) (i : ℕ) → IsPlace cell_of os q i → IsPlace cell_of (all_of bs os) q (length bs + i)
place_behind [] os q i p = subst (λ n. IsPlace cell_of os q n) (sym (zero-add i)) p
place_behind (h ∷ bs) os q i p =
    let r = place_behind bs os q i p in
    let inner : length bs + i < length (all_of bs os) = r.within in
    subst (λ n. IsPlace cell_of (all_of (h ∷ bs) os) q n) (sym (next_place (length bs) i)) (record { within = omega arith; here = λ d. r.here d })

gap_behind : (bs : List Holding) (os : List Held) (q : Cell) (i : ℕ) → ((k : ℕ) (d : Holding) → k < length bs → cell_cmp (balance_of (get_or bs k d)) q ≡ Less) → IsGap cell_of cell_cmp os q i → IsGap cell_of cell_cmp (all_of bs os) q (length bs + i)
gap_behind bs os q i front g =
    let edge : i ≤ length os = g.within in
    record {
      within = omega (arith, length_all bs os);
      below = λ k d lt. each_of (λ n e. n < length bs + i → cell_cmp e.0 q ≡ Less) bs os (λ n e small before. front n e small) (λ n e small before. g.below n e (omega arith)) k d (omega arith) lt;
      above = λ k d le lt. each_of (λ n e. length bs + i ≤ n → cell_cmp e.0 q ≡ Greater) bs os (λ n e small past. absurd (omega arith)) (λ n e small past. g.above n e (omega arith) small) k d (omega (arith, length_all bs os)) le;
    }

pub other_place : (bs : List Holding) (os : List Held) (q : Cell) (n i : ℕ) → n ≡ length bs → IsPlace cell_of os q i → IsPlace cell_of (all_of bs os) q (n + i)
other_place bs os q n i is p = subst (λ m. IsPlace cell_of (all_of bs os) q (m + i)) (sym is) (place_behind bs os q i p)

pub other_gap : (bs : List Holding) (os : List Held) (q : Cell) (n i : ℕ) → n ≡ length bs → 0 < kind_of q → IsGap cell_of cell_cmp os q i → IsGap cell_of cell_cmp (all_of bs os) q (n + i)
other_gap bs os q n i is other g =
    subst (λ m. IsGap cell_of cell_cmp (all_of bs os) q (m + i)) (sym is)
    (gap_behind bs os q i (λ k d lt. balance_below (get_or bs k d).address q other) g)
