-- Cells as blocks hold them: what all balances are, then what all other cells have.
use Rattle.std.specs.Prelude.{◌≡◌, ◌<◌, true, List, ◌++◌, map, All, IsTrue}
use Rattle.std.specs.FinMap.{from_sorted, is_sorted, contains_key}
use Rattle.std.specs.declared.cmp.Ordering.TheVariants.{Less}
use Rattle.value_core.specs.declared.val.Val.{Val}
use Rattle.value_core.specs.declared.val.Val.TheVariants.{Mutez}
use Rattle.cell_names.specs.declared.cell.Cell.{Cell}
use Rattle.cell_names.specs.declared.cell.Cell.TheVariants.{Balance, Storage, Entry}
use Rattle.cell_names.specs.Cells.{cell_cmp, kind_of}
use Rattle.cell_names.specs.Contents.{Contents, amount_of}
use Rattle.cell_blocks.specs.declared.holding.Holding.{Holding}

-- a cell with its value
abbrev pub Held : Type 0
Held = Cell × Val

-- the balance that a holding is
abbrev pub held_by : Holding → Held
held_by h = (Balance h.address, Mutez h.amount)

-- all cells of both blocks, balances first
abbrev pub all_of : List Holding → List Held → List Held
all_of balances others = map held_by balances ++ others

-- what stands in the cells of both blocks
abbrev pub contents_of : List Holding → List Held → Contents
contents_of balances others = from_sorted (all_of balances others)

-- what both blocks keep: cells ascend, and those of the second are no balances
pub record AreBlocks (balances : List Holding) (others : List Held) : Type 0 where
  pub ascend : IsTrue (is_sorted cell_cmp (all_of balances others))
  pub behind : All (λ e. 0 < kind_of e.0) others

-- what may stand in a cell of blocks: in a balance an amount, elsewhere any value
abbrev pub IsHoldable : Cell → Val → Type 0
IsHoldable (Balance address) v = v ≡ Mutez (amount_of v)
IsHoldable (Storage address) v = Unit {0}
IsHoldable (Entry address place key) v = Unit {0}

-- each cell that is there stands below this one
abbrev pub AllBelow : Contents → Cell → Type 0
AllBelow m c = (other : Cell) → contains_key m other ≡ true → cell_cmp other c ≡ Less
