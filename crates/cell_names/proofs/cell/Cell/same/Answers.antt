-- Cells that tie are one.
use Rattle.cell_names.proofs.Puts.{ties_are_same}
use Rattle.cell_names.proofs.cell.Cell.same.Goals as goal

pub returns : goal.returns
returns c = ties_are_same c.args.self.now c.args.other.now c.order.result c.is_eq.result c.order.ensures c.is_eq.ensures
