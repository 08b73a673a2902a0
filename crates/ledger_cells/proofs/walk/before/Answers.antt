-- The next held cell is the given one, or stands above it.
use Rattle.std.proofs.Common.{sym, ap, ◌∙◌}
use Rattle.cell_names.specs.declared.cell.Cell.{Cell}
use Rattle.cell_names.specs.Cells.{cell_cmp}
use Rattle.ledger_cells.proofs.Walking.{equal_passed, greater_passed}
use Rattle.ledger_cells.proofs.walk.before.Goals as goal

pub returns-in-Equal-clause-next : goal.returns-in-Equal-clause-next
returns-in-Equal-clause-next c =
    equal_passed c.args.cell.now c.in-Some.row c.args.held.now c.next-in-Equal.new.self c.next-in-Equal.result c.requires c.in-Some.ensures c.next-in-Equal.ensures
    (ap (λ (k : Cell). cell_cmp k c.args.cell.now) (sym c.cell.ensures) ∙ sym c.in-Equal.ensures)

pub returns-clause-next : goal.returns-clause-next
returns-clause-next c =
    greater_passed c.args.cell.now c.in-Some.row c.args.held.now c.requires c.in-Some.ensures
    (ap (λ (k : Cell). cell_cmp k c.args.cell.now) (sym c.cell.ensures) ∙ sym c.in-Greater.ensures)
