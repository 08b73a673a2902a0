-- The changes are in order, and the first of them is taken.
use Rattle.std.proofs.Common.{ap, sym, subst, ◌∙◌, List}
use Rattle.std.specs.Prelude.{IsTrue}
use Rattle.std.specs.FinMap.{is_sorted}
use Rattle.value_core.proofs.Bools.{true_of}
use Rattle.cell_names.specs.Cells.{cell_cmp}
use Rattle.ledger_cells.specs.Overlay.{Change}
use Rattle.ledger_cells.specs.Walking.{cells_left}
use Rattle.ledger_cells.proofs.Walking.{next_left}
use Rattle.ledger_cells.proofs.Copying.{sorted_from_keys}
use Rattle.ledger_cells.proofs.walk.CellsWalk.new.Goals as goal

pub invariant_of-result : goal.invariant_of-result
invariant_of-result c = record {
  held = c.requires;
  changes =
      subst (λ (l : List Change). IsTrue (is_sorted cell_cmp l))
      (sym (next_left c.iter-changes.result c.next-change.new.self c.next-change.result c.next-change.ensures.steps ∙ c.iter-changes.ensures.rest))
      (true_of _ (sorted_from_keys c.args.changes.now.entries c.iter-changes.ensures.ordered));
}

pub returns : goal.returns
returns c =
    ap (λ (l : List Change). cells_left c.args.held l)
    (next_left c.iter-changes.result c.next-change.new.self c.next-change.result c.next-change.ensures.steps ∙ c.iter-changes.ensures.rest)
