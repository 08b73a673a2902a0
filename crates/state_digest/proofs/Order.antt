-- Touched cells in their order, and what is left of them beyond a bound.
use Rattle.std.proofs.Common.{◌≡◌, ℕ, suc, ◌<◌, ◌≤◌, Bool, true, false, not, ◌||◌, List, [], ◌∷◌, length, get_or, Option, Some, None, refl, sym, ap, ◌∙◌, arith}
use Rattle.std.specs.Prelude.{if◌then◌else◌}
use Rattle.std.specs.List.{list_all}
use Rattle.std.specs.declared.cmp.Ordering.TheVariants.{Less, Equal, Greater}
use Rattle.std.specs.Borrow.{Bor}
use Rattle.std.specs.Cmp.{eq_by_cmp_equiv}
use Rattle.std.specs.Ordering.{eq_by_cmp, is_lt, ordering_reverse}
use Rattle.value_core.proofs.Bools.{both_true, first_true, second_true}
use Rattle.cell_names.specs.declared.cell.Cell.{Cell}
use Rattle.cell_names.specs.Cells.{cell_cmp}
use Rattle.cell_names.specs.CellOrder.{cell_cmp-total, cell_cmp-ties}
use Rattle.cell_names.proofs.Puts.{one_from}
use Rattle.state_digest.specs.Bounds.{is_under}
use Rattle.state_digest.specs.Touched.{beyond, cells_of, first_is_under, is_among, rises}

-- ---- from what a sort promises

none_less : (x : Cell) (xs : List (Bor Cell)) → ((j : ℕ) (d : Bor Cell) → j < length xs → is_lt (cell_cmp (get_or xs j d).now x) ≡ false) → list_all (λ d. not (is_lt (cell_cmp d x))) (cells_of xs) ≡ true
none_less x [] each = refl
none_less x (y ∷ xs) each =
    both_true _ _ (ap not (each 0 y (omega arith)))
    (none_less x xs (λ j d lt. each (suc j) d (omega arith)))

pub rises_from : (xs : List (Bor Cell)) → ((i j : ℕ) (d : Bor Cell) → i ≤ j → j < length xs → is_lt (cell_cmp (get_or xs j d).now (get_or xs i d).now) ≡ false) → rises (cells_of xs) ≡ true
rises_from [] each = refl
rises_from (x ∷ xs) each =
    both_true _ _ (none_less x.now xs (λ j d lt. each 0 (suc j) d (omega arith) (omega arith)))
    (rises_from xs (λ i j d le lt. each (suc i) (suc j) d (omega arith) (omega arith)))

-- ---- under a bound and beyond it

-- a cell that isn't below one that isn't below a bound isn't below it either
not_below : (d t b : Cell) → is_lt (cell_cmp d t) ≡ false → is_lt (cell_cmp t b) ≡ false → is_lt (cell_cmp d b) ≡ false
not_below d t b high beyond_it =
    elim (cell_cmp d b) as (λ r. cell_cmp d b ≡ r → is_lt r ≡ false) [
      | Less ↦ λ less.
          elim (cell_cmp t b) as (λ r. cell_cmp t b ≡ r → is_lt r ≡ false → true ≡ false) [
            | Less ↦ λ _ e. e
            | Equal ↦ λ tied _. let same : t ≡ b = cell_cmp-ties t b tied in sym (ap is_lt (ap (cell_cmp d) same ∙ less)) ∙ high
            | Greater ↦ λ greater _.
                let back : cell_cmp b t ≡ Less = cell_cmp-total.antisymm b t ∙ ap ordering_reverse greater in
                sym (ap is_lt (cell_cmp-total.trans d b t less back)) ∙ high
          ] refl beyond_it
      | Equal ↦ λ _. refl
      | Greater ↦ λ _. refl
    ] refl

pub not_under : (bound : Option Cell) (d t : Cell) → is_lt (cell_cmp d t) ≡ false → is_under bound t ≡ false → is_under bound d ≡ false
not_under None d t high out = out
not_under (Some b) d t high out = not_below d t b high out

pub is_not : (b : Bool) → not b ≡ true → b ≡ false
is_not true h = absurd cc
is_not false h = refl

-- none of those is under the bound that aren't below one beyond it
none_under : (bound : Option Cell) (t : Cell) (ts : List Cell) → is_under bound t ≡ false → list_all (λ d. not (is_lt (cell_cmp d t))) ts ≡ true → list_all (λ d. not (is_under bound d)) ts ≡ true
none_under bound t [] out high = refl
none_under bound t (d ∷ ts) out high =
    both_true _ _ (ap not (not_under bound d t (is_not _ (first_true _ _ high)) out))
    (none_under bound t ts out (second_true (not (is_lt (cell_cmp d t))) _ high))

is_other : (bound : Option Cell) (c d : Cell) → is_under bound c ≡ true → is_under bound d ≡ false → eq_by_cmp cell_cmp c d ≡ false
is_other bound c d under out =
    elim (eq_by_cmp cell_cmp c d) as (λ b. eq_by_cmp cell_cmp c d ≡ b → b ≡ false) [
      | true ↦ λ one. sym under ∙ ap (is_under bound) (one_from c d one) ∙ out
      | false ↦ λ _. refl
    ] refl

not_among : (bound : Option Cell) (c : Cell) (ts : List Cell) → is_under bound c ≡ true → list_all (λ d. not (is_under bound d)) ts ≡ true → is_among ts c ≡ false
not_among bound c [] under out = refl
not_among bound c (d ∷ ts) under out =
    ap (λ b. b || is_among ts c) (is_other bound c d under (is_not _ (first_true _ _ out)))
    ∙ not_among bound c ts under (second_true (not (is_under bound d)) _ out)

-- where the first of them isn't under the bound, no cell under it is among them
pub none_among : (bound : Option Cell) (c : Cell) (ts : List Cell) → rises ts ≡ true → first_is_under bound ts ≡ false → is_under bound c ≡ true → is_among ts c ≡ false
none_among bound c [] up out under = refl
none_among bound c (t ∷ ts) up out under =
    not_among bound c (t ∷ ts) under
    (both_true _ _ (ap not out) (none_under bound t ts out (first_true _ _ up)))

-- what is beyond the bound rises too
pub beyond-rises : (bound : Option Cell) (ts : List Cell) → rises ts ≡ true → rises (beyond bound ts) ≡ true
beyond-rises bound [] up = refl
beyond-rises bound (t ∷ ts) up =
    elim (is_under bound t) as (λ b. rises (if b then beyond bound ts else t ∷ ts) ≡ true) [
      | true ↦ beyond-rises bound ts (second_true (list_all (λ d. not (is_lt (cell_cmp d t))) ts) _ up)
      | false ↦ up
    ]

-- and of the cells beyond the bound the same ones are among it
pub among-beyond : (bound : Option Cell) (c : Cell) (ts : List Cell) → is_under bound c ≡ false → is_among (beyond bound ts) c ≡ is_among ts c
among-beyond bound c [] out = refl
among-beyond bound c (t ∷ ts) out =
    elim (is_under bound t) as (λ b. is_under bound t ≡ b → is_among (if b then beyond bound ts else t ∷ ts) c ≡ (eq_by_cmp cell_cmp c t || is_among ts c)) [
      | true ↦ λ under.
          among-beyond bound c ts out
          ∙ ap (λ b. b || is_among ts c) (sym ((eq_by_cmp_equiv cell_cmp-total).symm c t ∙ is_other bound t c under out))
      | false ↦ λ _. refl
    ] refl
