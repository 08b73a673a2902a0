use Rattle.std.proofs.Common.{◌≡◌, ◌++◌, length}
use Rattle.std.specs.List.{flat_map, AllByRecursion}
use Rattle.std.specs.FinMap.{entries}
use Rattle.ledger_state.specs.Spelling.{spell_cells, spell_held}
use Rattle.ledger_state.proofs.CellTurns.{IsFitting, IsSpeltHeld}
use Rattle.ledger_state.proofs.writer.put_cells.Given as goal

abbrev pub invariant-loop-row : goal.invariant-loop-row
invariant-loop-row l = record {
  written : l.out.items ++ flat_map spell_held l.walk ≡ l.fn.out.items ++ spell_cells l.cells.cells;
  fit : AllByRecursion (IsFitting l.cells.book) l.walk;
  again : AllByRecursion IsSpeltHeld l.walk → AllByRecursion IsSpeltHeld (entries l.cells.cells);
}

abbrev pub decreases-loop-row : goal.decreases-loop-row
decreases-loop-row l = length l.walk
