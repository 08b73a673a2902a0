-- The search for the least cell above a given one.
use Rattle.std.specs.Prelude.{◌≡◌, ◌≢◌, Bool, true, false, List, Option, Some, None, IsTrue}
use Rattle.std.specs.declared.cmp.Ordering.TheVariants.{Less}
use Rattle.std.specs.declared.ops.Bound.{Bound}
use Rattle.std.specs.declared.ops.Bound.TheVariants.{Excluded, Unbounded}
use Rattle.std.specs.Ordering.{is_lt}
use Rattle.std.specs.FinMap.{contains_key, find, is_sorted}
use Rattle.value_core.specs.declared.val.Val.{Val}
use Rattle.cell_names.specs.declared.cell.Cell.{Cell}
use Rattle.cell_names.specs.Cells.{cell_cmp}
use Rattle.cell_names.specs.Contents.{Contents}
use Rattle.cell_blocks.specs.Successors.{IsAbove, IsNext, NoneAbove}
use Rattle.ledger_cells.specs.Overlay.{Change, over}

-- no cell that is held stands above the given one and below the other
abbrev pub NoneBetween : Contents → Option Cell → Cell → Type 0
NoneBetween held given c = (q : Cell) → contains_key held q ≡ true → IsAbove cell_cmp given q → cell_cmp q c ≢ Less

-- the search began above one cell and has come to another: no cell stands between them, and `rest` are the changes above
pub record IsSought (held : Contents) (over_them : List Change) (from given : Option Cell) (rest : List Change) : Type 0 where
  pub passed : (q : Cell) → contains_key (over held over_them) q ≡ true → IsAbove cell_cmp from q → IsAbove cell_cmp given q
  pub beyond : (q : Cell) → IsAbove cell_cmp given q → IsAbove cell_cmp from q
  pub changes : (q : Cell) → IsAbove cell_cmp given q → find cell_cmp q over_them ≡ find cell_cmp q rest
  pub above : (q : Cell) (o : Option Val) → find cell_cmp q rest ≡ Some o → IsAbove cell_cmp given q
  pub sorted : IsTrue (is_sorted cell_cmp rest)

-- the least held cell above the given one, if there is one
abbrev pub IsLeastHeld : Contents → Option Cell → Option (Cell × Val) → Type 0
IsLeastHeld held given None = NoneAbove cell_cmp held given
IsLeastHeld held given (Some row) = IsNext cell_cmp held given row.0 row.1

-- where the cells above the given one start, if one is given
abbrev pub start_above : Option Cell → Bound Cell
start_above None = Unbounded
start_above (Some c) = Excluded c

-- whether there is a row whose cell stands below the given one
abbrev pub stands_below : Option (Cell × Val) → Cell → Bool
stands_below None c = false
stands_below (Some row) c = is_lt (cell_cmp row.0 c)
