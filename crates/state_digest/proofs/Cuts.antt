-- Cells that ascend, cut at a bound: those under it stand in front.
use Rattle.std.proofs.Common.{◌≡◌, Bool, true, false, not, cond, List, [], ◌∷◌, ◌++◌, Option, Some, None, refl, sym, ap, ◌∙◌}
use Rattle.std.specs.List.{list_all}
use Rattle.std.specs.declared.cmp.Ordering.TheVariants.{Less, Equal, Greater}
use Rattle.std.specs.Ordering.{is_lt, ordering_reverse}
use Rattle.std.specs.Cmp.{tied_itself}
use Rattle.std.specs.FinMap.{is_sorted}
use Rattle.std.specs.FinMap.Entries.{below_all}
use Rattle.std.proofs.lemmas.List.{append-nil}
use Rattle.value_core.proofs.Bools.{both_true, first_true, second_true}
use Rattle.cell_names.specs.declared.cell.Cell.{Cell}
use Rattle.cell_names.specs.Cells.{cell_cmp}
use Rattle.cell_names.specs.CellOrder.{cell_cmp-total}
use Rattle.state_digest.specs.Bounds.{is_under, over, starts_under, under}
use Rattle.state_digest.specs.Digests.{first_cell}
use Rattle.state_digest.specs.Shelving.{all_under}
use Rattle.state_digest.proofs.Keys.{Held, chosen, chosen-append}
use Rattle.state_digest.proofs.Order.{is_not, not_under}

-- ---- all or none are chosen

pub chosen_all : (p : Cell → Bool) (xs : List Held) → list_all (λ e. p e.0) xs ≡ true → chosen p xs ≡ xs
chosen_all p [] all = refl
chosen_all p (x ∷ xs) all =
    ap (λ b. cond b (x ∷ chosen p xs) (chosen p xs)) (first_true (p x.0) _ all)
    ∙ ap (λ l. x ∷ l) (chosen_all p xs (second_true (p x.0) _ all))

pub chosen_none : (p : Cell → Bool) (xs : List Held) → list_all (λ e. not (p e.0)) xs ≡ true → chosen p xs ≡ []
chosen_none p [] none = refl
chosen_none p (x ∷ xs) none =
    ap (λ b. cond b (x ∷ chosen p xs) (chosen p xs)) (is_not (p x.0) (first_true (not (p x.0)) _ none))
    ∙ chosen_none p xs (second_true (not (p x.0)) _ none)

turned_twice : (p : Cell → Bool) (xs : List Held) → list_all (λ e. p e.0) xs ≡ true → list_all (λ e. not (not (p e.0))) xs ≡ true
turned_twice p [] all = refl
turned_twice p (x ∷ xs) all =
    both_true _ _ (ap (λ b. not (not b)) (first_true (p x.0) _ all))
    (turned_twice p xs (second_true (p x.0) _ all))

-- ---- what ascends

is_above : (a b : Cell) → is_lt (cell_cmp a b) ≡ true → is_lt (cell_cmp b a) ≡ false
is_above a b less =
    elim (cell_cmp a b) as (λ r. cell_cmp a b ≡ r → is_lt r ≡ true → is_lt (cell_cmp b a) ≡ false) [
      | Less ↦ λ is _. ap is_lt (cell_cmp-total.antisymm b a ∙ ap ordering_reverse is)
      | Equal ↦ λ _ e. absurd cc
      | Greater ↦ λ _ e. absurd cc
    ] refl less

-- where a cell isn't under a bound, none above it is
above_over : (bound : Option Cell) (c : Cell) (xs : List Held) → is_under bound c ≡ false → below_all cell_cmp c xs ≡ true → list_all (λ e. not (is_under bound e.0)) xs ≡ true
above_over bound c [] out below = refl
above_over bound c (x ∷ xs) out below =
    both_true _ _ (ap not (not_under bound x.0 c (is_above c x.0 (first_true _ _ below)) out))
    (above_over bound c xs out (second_true (is_lt (cell_cmp c x.0)) _ below))

-- where the first of them isn't under a bound, none is
pub none_under : (bound : Option Cell) (xs : List Held) → is_sorted cell_cmp xs ≡ true → starts_under bound xs ≡ false → list_all (λ e. not (is_under bound e.0)) xs ≡ true
none_under bound [] up stop = refl
none_under bound (x ∷ xs) up stop = both_true _ _ (ap not stop) (above_over bound x.0 xs stop (first_true _ _ up))

-- ---- cuts

pub under-cut : (bound : Option Cell) (xs ys : List Held) → is_sorted cell_cmp ys ≡ true → all_under bound xs ≡ true → starts_under bound ys ≡ false → under bound (xs ++ ys) ≡ xs
under-cut bound xs ys up all stop =
    chosen-append (is_under bound) xs ys
    ∙ (λ i. chosen_all (is_under bound) xs all i ++ chosen_none (is_under bound) ys (none_under bound ys up stop) i)
    ∙ append-nil xs

pub over-cut : (bound : Option Cell) (xs ys : List Held) → is_sorted cell_cmp ys ≡ true → all_under bound xs ≡ true → starts_under bound ys ≡ false → over bound (xs ++ ys) ≡ ys
over-cut bound xs ys up all stop =
    chosen-append (λ c. not (is_under bound c)) xs ys
    ∙ (λ i. chosen_none (λ c. not (is_under bound c)) xs (turned_twice (is_under bound) xs all) i ++ chosen_all (λ c. not (is_under bound c)) ys (none_under bound ys up stop) i)

-- whatever ascends is cut so
pub cut_at : (bound : Option Cell) (xs : List Held) → is_sorted cell_cmp xs ≡ true → xs ≡ under bound xs ++ over bound xs
cut_at bound [] up = refl
cut_at bound (x ∷ xs) up =
    elim (is_under bound x.0) as (λ b. is_under bound x.0 ≡ b → x ∷ xs ≡ cond b (x ∷ under bound xs) (under bound xs) ++ cond (not b) (x ∷ over bound xs) (over bound xs)) [
      | true ↦ λ _. ap (λ l. x ∷ l) (cut_at bound xs (second_true (below_all cell_cmp x.0 xs) _ up))
      | false ↦ λ out.
          let none = above_over bound x.0 xs out (first_true _ _ up) in
          (λ i. sym (chosen_none (is_under bound) xs none) i ++ (x ∷ sym (chosen_all (λ c. not (is_under bound c)) xs none) i))
    ] refl

pub all_under-under : (bound : Option Cell) (xs : List Held) → all_under bound (under bound xs) ≡ true
all_under-under bound [] = refl
all_under-under bound (x ∷ xs) =
    elim (is_under bound x.0) as (λ b. is_under bound x.0 ≡ b → all_under bound (cond b (x ∷ under bound xs) (under bound xs)) ≡ true) [
      | true ↦ λ here. both_true _ _ here (all_under-under bound xs)
      | false ↦ λ _. all_under-under bound xs
    ] refl

pub starts_under-over : (bound : Option Cell) (xs : List Held) → starts_under bound (over bound xs) ≡ false
starts_under-over bound [] = refl
starts_under-over bound (x ∷ xs) =
    elim (is_under bound x.0) as (λ b. is_under bound x.0 ≡ b → starts_under bound (cond (not b) (x ∷ over bound xs) (over bound xs)) ≡ false) [
      | true ↦ λ _. starts_under-over bound xs
      | false ↦ λ out. out
    ] refl

-- ---- cut at the first cell of what stands behind

below_append : (c : Cell) (xs ys : List Held) (y : Held) → below_all cell_cmp c (xs ++ y ∷ ys) ≡ true → is_lt (cell_cmp c y.0) ≡ true
below_append c [] ys y below = first_true _ _ below
below_append c (x ∷ xs) ys y below = below_append c xs ys y (second_true (is_lt (cell_cmp c x.0)) _ below)

under_next : (xs ys : List Held) (y : Held) → is_sorted cell_cmp (xs ++ y ∷ ys) ≡ true → all_under (Some y.0) xs ≡ true
under_next [] ys y up = refl
under_next (x ∷ xs) ys y up =
    both_true _ _ (below_append x.0 xs ys y (first_true _ _ up))
    (under_next xs ys y (second_true (below_all cell_cmp x.0 (xs ++ y ∷ ys)) _ up))

under_nothing : (xs : List Held) → all_under None xs ≡ true
under_nothing [] = refl
under_nothing (x ∷ xs) = under_nothing xs

pub under_first : (xs ys : List Held) → is_sorted cell_cmp (xs ++ ys) ≡ true → all_under (first_cell ys) xs ≡ true
under_first xs [] up = under_nothing xs
under_first xs (y ∷ ys) up = under_next xs ys y up

pub first_stops : (ys : List Held) → starts_under (first_cell ys) ys ≡ false
first_stops [] = refl
first_stops (y ∷ ys) = ap is_lt (tied_itself cell_cmp-total y.0)

-- nothing stands behind no bound
pub no_more : (ys : List Held) → starts_under None ys ≡ false → ys ≡ []
no_more [] stop = refl
no_more (y ∷ ys) stop = absurd cc
