-- The cells that a walk has left.
use Rattle.std.specs.Prelude.{◌≡◌, false, List, [], ◌∷◌, Option, Some, None, IsTrue}
use Rattle.std.specs.Borrow.{Bor}
use Rattle.std.specs.Ordering.{eq_by_cmp}
use Rattle.std.specs.FinMap.{entries, find, from_sorted, is_sorted}
use Rattle.std.specs.FinMap.Entries.{below_all}
use Rattle.value_core.specs.declared.val.Val.{Val}
use Rattle.cell_names.specs.declared.cell.Cell.{Cell}
use Rattle.cell_names.specs.Cells.{cell_cmp}
use Rattle.ledger_cells.specs.Overlay.{Change, over}

-- the changes that are left: the next one, and those behind it
abbrev pub changes_left : Option (Bor Cell × Bor (Option Val)) → List Change → List Change
changes_left None rest = []
changes_left (Some next) rest = (next.0.now, next.1.now) ∷ rest

-- all cells that are left: what is held, with the changes put over it
abbrev pub cells_left : List (Cell × Val) → List Change → List (Cell × Val)
cells_left held changes = entries (over (from_sorted held) changes)

-- what is held and what changed, both in the order of cells
pub record AreInOrder (cells : List (Cell × Val)) (over_them : List Change) : Type 0 where
  pub held : IsTrue (is_sorted cell_cmp cells)
  pub changes : IsTrue (is_sorted cell_cmp over_them)

-- the cells that were held but for this one, which stands below all of them
pub record IsPassed (c : Cell) (old new : List (Cell × Val)) : Type 0 where
  pub others : (q : Cell) → eq_by_cmp cell_cmp q c ≡ false → find cell_cmp q old ≡ find cell_cmp q new
  pub above : IsTrue (below_all cell_cmp c new)
