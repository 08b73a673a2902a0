-- The search has come to some cell, and the row is the least held cell above it.
use Rattle.std.proofs.Common.{Option}
use Rattle.std.specs.Option.{option_copied}
use Rattle.cell_names.specs.declared.cell.Cell.{Cell}
use Rattle.ledger_cells.specs.Seeking.{IsSought, IsLeastHeld}
use Rattle.ledger_cells.proofs.seeking.least_above.Given as goal

abbrev pub invariant-loop-cell : goal.invariant-loop-cell
invariant-loop-cell l = (given : Option Cell) × (IsSought l.held l.changes.entries (option_copied l.c) given l.cell-iterator × IsLeastHeld l.held given l.row)
