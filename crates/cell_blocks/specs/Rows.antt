-- What rows and held values are, lent or made.
use Rattle.value_core.specs.declared.val.Val.{Val}
use Rattle.cell_names.specs.declared.cell.Cell.{Cell}
use Rattle.cell_blocks.specs.declared.row.RowSource.{RowSource}
use Rattle.cell_blocks.specs.declared.row.RowSource.TheVariants as row
use Rattle.cell_blocks.specs.declared.row.ValSource.{ValSource}
use Rattle.cell_blocks.specs.declared.row.ValSource.TheVariants as held

-- the cell with its value
abbrev pub row_of : RowSource → Cell × Val
row_of (row.Made cell value) = (cell, value)
row_of (row.Lent cell value) = (cell.now, value.now)

-- the value
abbrev pub val_of : ValSource → Val
val_of (held.Made value) = value
val_of (held.Lent value) = value.now
