-- What is gathered are the cells themselves.
use Rattle.std.proofs.Common.{List, sym, ap, subst, ◌∙◌}
use Rattle.std.specs.Prelude.{All, IsTrue}
use Rattle.std.specs.FinMap.{is_sorted}
use Rattle.cell_names.specs.Cells.{cell_cmp}
use Rattle.cell_names.specs.Contents.{Contents}
use Rattle.cell_blocks.specs.Blocks.{Held, IsHoldable}
use Rattle.ledger_cells.specs.Overlay.{Overlaid, counts_of}
use Rattle.ledger_cells.proofs.Walking.{held_in_order}
use Rattle.ledger_cells.proofs.Gathering.{entries_are_holdable}
use Rattle.ledger_cells.proofs.Settled.{settled_cells}
use Rattle.ledger_cells.proofs.overlay.Overlay.settle.Goals as goal

pub gather-requires-clause-order : goal.gather-requires-clause-order
gather-requires-clause-order c = subst (λ (l : List Held). IsTrue (is_sorted cell_cmp l)) (sym c.walk.ensures) (held_in_order c.args.self.now.cells)

pub gather-requires-clause-holdable : goal.gather-requires-clause-holdable
gather-requires-clause-holdable c = subst (λ (l : List Held). All (λ e. IsHoldable e.0 e.1) l) (sym c.walk.ensures) (entries_are_holdable c.args.self.now.cells c.requires)

pub invariant_of-self : goal.invariant_of-self
invariant_of-self c =
    c.self.invariant
    ∙ ap (λ (m : Contents). counts_of m)
    (ap (λ (o : Overlaid). o.cells) c.self.view_is
    ∙ sym (settled_cells c.args.self.now.cells c.in_ok-held.held c.walk.result c.clear.new.self.entries c.walk.ensures c.in_ok-held.ensures c.clear.ensures.empty))

pub returns-clause-cells : goal.returns-clause-cells
returns-clause-cells c = settled_cells c.args.self.now.cells c.in_ok-held.held c.walk.result c.clear.new.self.entries c.walk.ensures c.in_ok-held.ensures c.clear.ensures.empty
