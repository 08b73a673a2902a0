-- Two walks of the same cells are over the same cells.
use Rattle.std.proofs.Common.{◌≡◌, ap, subst}
use Rattle.std.specs.Prelude.{IsTrue, ◌↔◌}
use Rattle.cell_names.specs.Contents.{Contents}
use Rattle.ledger_cells.specs.LedgerCells.{LedgerCells}
use Rattle.ledger_cells.proofs.Settled.{holds_same}
use Rattle.ledger_cells.proofs.cells.Cells.holds_same.Goals as goal

pub returns : goal.returns
returns c =
    let here : c.self.inside.overlay.cells ≡ c.args.self.now.cells = ap (λ (s : LedgerCells). s.cells) c.self.view_is in
    let there : c.other.inside.overlay.cells ≡ c.args.other.now.cells = ap (λ (s : LedgerCells). s.cells) c.other.view_is in
    subst (λ (m : Contents). IsTrue c.same_rows.result ↔ (m ≡ c.args.other.now.cells)) here
    (subst (λ (n : Contents). IsTrue c.same_rows.result ↔ (c.self.inside.overlay.cells ≡ n)) there
    (holds_same c.self.inside.overlay.cells c.other.inside.overlay.cells c.same_rows.result c.walk.result c.walk-2.result c.same_rows.ensures c.walk.ensures c.walk-2.ensures))
