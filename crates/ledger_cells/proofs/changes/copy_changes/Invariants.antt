-- What is copied, and what is left.
use Rattle.std.proofs.Common.{◌≡◌, ◌++◌}
use Rattle.ledger_cells.proofs.changes.copy_changes.Given as goal

abbrev pub invariant-loop-cell : goal.invariant-loop-cell
invariant-loop-cell l = l.copied.entries ++ l.cell-iterator ≡ l.changes.entries
