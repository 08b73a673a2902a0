-- Nothing is counted of no cells.
use Rattle.ledger_cells.proofs.Counting.{counts_of_none}
use Rattle.ledger_cells.proofs.overlay.Overlay.new.Goals as goal

pub invariant_of-result : goal.invariant_of-result
invariant_of-result c = counts_of_none c.new-held.result c.new-changes.result.entries c.new-held.ensures c.new-changes.ensures.empty
