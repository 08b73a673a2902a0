-- What a change says, or else what is held.
use Rattle.std.proofs.Common.{ap, sym, ◌∙◌}
use Rattle.std.specs.FinMap.{get}
use Rattle.ledger_cells.specs.Overlay.{Overlaid}
use Rattle.ledger_cells.proofs.Over.{lookup-find, changed_there, held_there}
use Rattle.ledger_cells.proofs.overlay.Overlay.get.Goals as goal

pub returns-in-Some : goal.returns-in-Some
returns-in-Some c =
    c.lent.ensures
    ∙ sym (changed_there c.self.inside.held c.self.inside.changes.entries c.args.c.now c.in-Some.value.now (sym (lookup-find c.args.c.now c.self.inside.changes.entries) ∙ sym c.in-Some.ensures.value))
    ∙ ap (λ (o : Overlaid). get o.cells c.args.c.now) c.self.view_is

pub returns-in-None : goal.returns-in-None
returns-in-None c =
    c.get-in-None.ensures
    ∙ sym (held_there c.self.inside.held c.self.inside.changes.entries c.args.c.now (sym (lookup-find c.args.c.now c.self.inside.changes.entries) ∙ sym c.in-None.ensures.value))
    ∙ ap (λ (o : Overlaid). get o.cells c.args.c.now) c.self.view_is
