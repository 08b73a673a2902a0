-- Changes put over what is held, which cells have a slot, and what is counted of cells.
use Rattle.std.specs.Prelude.{◌≡◌, ◌+◌, ◌-◌, ◌<◌, ◌≤◌, ◌^◌, List, [], ◌∷◌, map, cond, Option, Some, None}
use Rattle.std.specs.Ordering.{eq_by_cmp}
use Rattle.std.specs.FinMap.{find, len}
use Rattle.std.specs.FinSet.{FinSet, from_list}
use Rattle.value_core.specs.declared.val.Val.{Val}
use Rattle.cell_names.specs.declared.cell.Cell.{Cell}
use Rattle.cell_names.specs.Cells.{cell_cmp}
use Rattle.cell_names.specs.Contents.{Contents, put}
use Rattle.cell_names.specs.Supply.{money_of, supply}
use Rattle.ledger_cells.specs.declared.counts.Counts.{Counts}

-- ---- changes

-- a cell that has a slot, with what stands there now
abbrev pub Change : Type 0
Change = Cell × Option Val

-- what is held, with each change put over it
abbrev pub over : Contents → List Change → Contents
over m [] = m
over m (e ∷ es) = put (over m es) e.0 e.1

-- the cells that have a slot
abbrev pub slots_of : List Change → FinSet cell_cmp
slots_of es = from_list (map (λ e. e.0) es)

-- what stands in cells, and which of them have a slot
pub record Overlaid : Type 0 where
  pub cells : Contents
  pub slots : FinSet cell_cmp

-- the changes are those from before, but that this stands in the cell
pub record IsWritten (old : List Change) (c : Cell) (o : Option Val) (new : List Change) : Type 0 where
  pub changes : (q : Cell) → find cell_cmp q new ≡ cond (eq_by_cmp cell_cmp q c) (Some o) (find cell_cmp q old)

-- ---- counts

-- how much money stands in a cell, and 1 if it is there
abbrev pub count_at : Cell → Option Val → Counts
count_at c None = record { money = 0; cells = 0 }
count_at c (Some v) = record { money = money_of (c, v); cells = 1 }

-- how much money stands in cells, and how many there are
abbrev pub counts_of : Contents → Counts
counts_of m = record { money = supply m; cells = len m }

-- what one cell adds may be exchanged, so that the counts are those of these cells
pub record IsRecount (after : Contents) (counts gone new : Counts) : Type 0 where
  pub money_there : gone.money ≤ counts.money
  pub cells_there : gone.cells ≤ counts.cells
  pub money : (counts.money - gone.money) + new.money ≡ supply after
  pub cells : (counts.cells - gone.cells) + new.cells ≡ len after
  pub within : supply after < 2 ^ 64
