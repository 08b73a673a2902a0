-- The order is total, and ties equal cells alone.
use Rattle.cell_names.specs.CellOrder.{cell_cmp-total, cell_cmp-ties}
use Rattle.cell_names.proofs.cell.order_is_total.Goals as goal

pub returns : goal.returns
returns c = record { total = cell_cmp-total; ties = cell_cmp-ties }
