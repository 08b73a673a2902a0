-- Cells that are gathered into blocks, one after another.
use Rattle.std.specs.Prelude.{◌≡◌, true, List, Option, Some, None, All, IsTrue}
use Rattle.std.specs.FinMap.{contains_key, find, get, is_sorted}
use Rattle.std.specs.FinMap.Entries.{below_all}
use Rattle.value_core.specs.declared.val.Val.{Val}
use Rattle.cell_names.specs.declared.cell.Cell.{Cell}
use Rattle.cell_names.specs.Cells.{cell_cmp}
use Rattle.cell_names.specs.Contents.{Contents}
use Rattle.cell_blocks.specs.Blocks.{Held, IsHoldable}

-- the first that is there
abbrev pub first_of : Option Val → Option Val → Option Val
first_of None o = o
first_of (Some v) o = Some v

-- of all cells some are held, and the rest stands behind them
pub record IsGathered (all : List Held) (held : Contents) (rest : List Held) : Type 0 where
  pub together : (q : Cell) → find cell_cmp q all ≡ first_of (find cell_cmp q rest) (get held q)
  pub above : (q : Cell) → contains_key held q ≡ true → IsTrue (below_all cell_cmp q rest)
  pub sorted : IsTrue (is_sorted cell_cmp rest)
  pub holdable : All (λ e. IsHoldable e.0 e.1) rest
