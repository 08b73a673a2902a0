-- One more change stands behind those that are copied.
use Rattle.std.proofs.Common.{◌≡◌, List, ◌∷◌, ◌++◌, sym, ap, ◌∙◌}
use Rattle.ledger_cells.specs.Overlay.{Change}
use Rattle.ledger_cells.proofs.Copying.{copied_one}
use Rattle.ledger_cells.proofs.changes.copy_changes.Goals as goal

pub loop-cell-preserved : goal.loop-cell-preserved
loop-cell-preserved c =
    let e : Change = (c.in_ok-cell.cell, c.in_ok-value.value) in
    let same : e ≡ (c.in-Some.cell.now, c.in-Some.value.now) = λ i. (c.in_ok-cell.ensures i, c.in_ok-value.ensures i) in
    let whole : c.loop-cell.copied.entries ++ e ∷ c.next.new.self ≡ c.args.changes.now.entries =
    ap (λ (x : Change). c.loop-cell.copied.entries ++ x ∷ c.next.new.self) same
    ∙ ap (λ (l : List Change). c.loop-cell.copied.entries ++ l) (sym c.in-Some.ensures.steps) ∙ c.loop-cell.invariant in
    copied_one c.args.changes.now.entries c.loop-cell.copied.entries e c.next.new.self c.write.new.changes.entries c.iter-cell-items.ensures.ordered whole c.in_ok-write.ensures.entries
