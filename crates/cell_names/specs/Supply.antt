-- All the money that stands in cells.
use Rattle.std.specs.Prelude.{ℕ, sum, map}
use Rattle.std.specs.FinMap.{entries}
use Rattle.value_core.specs.declared.val.Val.{Val}
use Rattle.cell_names.specs.declared.cell.Cell.{Cell}
use Rattle.cell_names.specs.declared.cell.Cell.TheVariants.{Balance, Storage, Entry}
use Rattle.cell_names.specs.Contents.{Contents, amount_of}

-- what a cell with its value adds to the supply: a balance its amount, and other cells nothing
abbrev pub money_of : Cell × Val → ℕ
money_of (Balance address, v) = amount_of v
money_of (Storage address, v) = 0
money_of (Entry address place key, v) = 0

-- all balances together
abbrev pub supply : Contents → ℕ
supply m = sum (map money_of (entries m))
