-- A cell has a slot where it is a key of the changes.
use Rattle.std.proofs.Common.{ap, sym, ◌∙◌}
use Rattle.std.specs.Prelude.{is_some}
use Rattle.std.specs.FinSet.{contains}
use Rattle.ledger_cells.specs.Overlay.{Overlaid}
use Rattle.ledger_cells.proofs.Over.{contains-slots, lookup-find}
use Rattle.ledger_cells.proofs.overlay.Overlay.has_slot.Goals as goal

pub returns : goal.returns
returns c =
    c.contains_key.ensures ∙ ap is_some (lookup-find c.args.c.now c.self.inside.changes.entries)
    ∙ sym (contains-slots c.self.inside.changes.entries c.args.c.now)
    ∙ ap (λ (o : Overlaid). contains o.slots c.args.c.now) c.self.view_is
