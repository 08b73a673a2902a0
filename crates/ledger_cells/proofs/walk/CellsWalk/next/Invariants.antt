-- Only changes that are gone were passed.
use Rattle.std.proofs.Common.{◌≡◌, length}
use Rattle.ledger_cells.specs.Walking.{cells_left, changes_left, AreInOrder}
use Rattle.ledger_cells.proofs.walk.CellsWalk.next.Given as goal

abbrev pub invariant-loop-self : goal.invariant-loop-self
invariant-loop-self l = record {
  order : AreInOrder l.self-inside.held (changes_left l.self-inside.change l.self-inside.changes);
  left : cells_left l.self-inside.held (changes_left l.self-inside.change l.self-inside.changes) ≡ l.fn.self;
}

abbrev pub decreases-loop-self : goal.decreases-loop-self
decreases-loop-self l = length (changes_left l.self-inside.change l.self-inside.changes)
