-- Cells of one flight and one book are alike where the same stands in them.
use Rattle.std.proofs.Common.{◌≡◌, ap, sym, ◌∙◌}
use Rattle.std.proofs.lemmas.Bool.{eqb-true}
use Rattle.ledger_cells.specs.LedgerCells.{LedgerCells}
use Rattle.ledger_cells.proofs.Settled.{alike}
use Rattle.ledger_cells.proofs.cells.Cells.same.Goals as goal
use Rattle.ledger_cells.proofs.cells.Cells.same.Goals.{then-self-other, else-self-other}

pub returns-then-same : goal.returns-then-same
returns-then-same c =
    let facts : (c.self.inside.flight ≡ c.other.inside.flight) × (c.self.inside.book ≡ c.other.inside.book) = elim c.if-self-other.branch [
      | then-self-other w ↦ (w.if-self-other.true, w.same.ensures.0 (sym w.value-is ∙ c.if-same.true))
      | else-self-other w ↦ absurd (w.if-self-other.false (eqb-true c.self.inside.flight c.other.inside.flight (sym (sym c.if-same.true ∙ w.value-is))))
    ] in
    let flight = sym (ap (λ (s : LedgerCells). s.flight) c.self.view_is) ∙ facts.0 ∙ ap (λ (s : LedgerCells). s.flight) c.other.view_is in
    let book = sym (ap (λ (s : LedgerCells). s.book) c.self.view_is) ∙ facts.1 ∙ ap (λ (s : LedgerCells). s.book) c.other.view_is in
    alike c.args.self.now c.args.other.now c.holds_same.result flight book c.holds_same.ensures
