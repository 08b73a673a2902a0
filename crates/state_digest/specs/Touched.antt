-- Touched cells in their order, and what isn't touched.
use Rattle.std.specs.Prelude.{◌≡◌, Bool, true, false, not, ◌&&◌, if◌then◌else◌, List, [], ◌∷◌, map, Option, IsTrue}
use Rattle.std.specs.List.{list_all, list_any}
use Rattle.std.specs.Borrow.{Bor}
use Rattle.std.specs.Ordering.{eq_by_cmp, is_lt}
use Rattle.std.specs.FinMap.Entries.{where_key}
use Rattle.value_core.specs.declared.val.Val.{Val}
use Rattle.cell_names.specs.declared.cell.Cell.{Cell}
use Rattle.cell_names.specs.Cells.{cell_cmp}
use Rattle.state_digest.specs.Bounds.{is_under}

-- the cells that are lent
abbrev pub cells_of : List (Bor Cell) → List Cell
cells_of lent = map (λ c. c.now) lent

-- whether a cell is one of these
abbrev pub is_among : List Cell → Cell → Bool
is_among cells c = list_any (eq_by_cmp cell_cmp c) cells

-- none of these cells stands under an earlier one
abbrev pub rises : List Cell → Bool
rises [] = true
rises (c ∷ cells) = list_all (λ d. not (is_lt (cell_cmp d c))) cells && rises cells

-- the touched cells in their order
pub record AreInOrder (touched order : List Cell) : Type 0 where
  pub same : (c : Cell) → is_among order c ≡ is_among touched c
  pub rising : IsTrue (rises order)

-- whether the first of these is there and stands under the bound
abbrev pub first_is_under : Option Cell → List Cell → Bool
first_is_under bound [] = false
first_is_under bound (c ∷ cells) = is_under bound c

-- these from the first one on that isn't under the bound
abbrev pub beyond : Option Cell → List Cell → List Cell
beyond bound [] = []
beyond bound (c ∷ cells) = if is_under bound c then beyond bound cells else c ∷ cells

-- cells without those that are touched
abbrev pub untouched : List Cell → List (Cell × Val) → List (Cell × Val)
untouched touched cells = where_key cell_cmp (λ c. not (is_among touched c)) cells
