-- One more cell that is held, or one more change.
use Rattle.std.proofs.Common.{Some, ap, ◌∙◌}
use Rattle.std.proofs.lemmas.Result.{on_ok_weaker}
use Rattle.cell_names.specs.Contents.{Contents}
use Rattle.ledger_cells.specs.Overlay.{over}
use Rattle.ledger_cells.proofs.Over.{over-held, over-written}
use Rattle.ledger_cells.proofs.overlay.place.Goals as goal

pub returns-then-stands_last-clause-placed : goal.returns-then-stands_last-clause-placed
returns-then-stands_last-clause-placed c =
    on_ok_weaker c.push.result
    (λ pushed.
    ap (λ (m : Contents). over m c.args.changes.now.entries) pushed
    ∙ over-held c.args.held.now c.args.changes.now.entries c.args.c (Some c.args.v) (c.stands_last.ensures.slot c.if-stands_last.true))
    c.push.ensures.pushed

pub returns-clause-placed : goal.returns-clause-placed
returns-clause-placed c =
    on_ok_weaker c.write.result
    (λ written. over-written c.args.held.now c.args.changes.now.entries c.write.new.changes.entries c.args.c (Some c.args.v) written)
    c.write.ensures.written
