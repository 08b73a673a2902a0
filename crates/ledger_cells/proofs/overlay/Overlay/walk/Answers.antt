-- A walk begins with all that is held, and all changes.
use Rattle.std.proofs.Common.{ap, sym, subst, ◌∙◌, List}
use Rattle.std.specs.Prelude.{IsTrue}
use Rattle.std.specs.FinMap.{entries, is_sorted}
use Rattle.cell_names.specs.Cells.{cell_cmp}
use Rattle.cell_blocks.specs.Blocks.{Held}
use Rattle.ledger_cells.specs.Overlay.{Overlaid}
use Rattle.ledger_cells.specs.Walking.{cells_left}
use Rattle.ledger_cells.proofs.Walking.{all_left, held_in_order}
use Rattle.ledger_cells.proofs.overlay.Overlay.walk.Goals as goal

pub new-requires : goal.new-requires
new-requires c = subst (λ (l : List Held). IsTrue (is_sorted cell_cmp l)) (sym c.walk.ensures) (held_in_order c.self.inside.held)

pub returns : goal.returns
returns c =
    c.new.ensures
    ∙ ap (λ (l : List Held). cells_left l c.self.inside.changes.entries) c.walk.ensures
    ∙ all_left c.self.inside.held c.self.inside.changes.entries
    ∙ ap (λ (o : Overlaid). entries o.cells) c.self.view_is
