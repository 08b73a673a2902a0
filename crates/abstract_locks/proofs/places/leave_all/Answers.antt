-- One cell more is left.
use Rattle.std.proofs.Common.{◌∙◌, ◌++◌, ◌∷◌, [], take, ap, sym}
use Rattle.std.proofs.lemmas.List.{take_more}
use Rattle.cell_names.specs.declared.cell.Cell.{Cell}
use Rattle.abstract_locks.proofs.ListLemmas.{one_more_left}
use Rattle.abstract_locks.proofs.places.leave_all.Goals as goal

pub loop-cell-preserved : goal.loop-cell-preserved
loop-cell-preserved c =
    one_more_left c.args.rows.now.entries c.loop-cell.rows.entries c.leave.new.rows.entries c.args.ticket (take c.loop-cell.cell-index c.args.cells.now) _ c.cell-item.result
    (take_more c.args.cells.now c.loop-cell.cell-index c.cell-item.result c.loop-cell-test.true ∙ ap (λ (x : Cell). take c.loop-cell.cell-index c.args.cells.now ++ x ∷ []) (sym c.cell-item.is))
    c.loop-cell.invariant c.leave.ensures
