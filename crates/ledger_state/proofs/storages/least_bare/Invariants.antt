use Rattle.std.proofs.Common.{◌≡◌, ◌+◌, ◌≤◌, length}
use Rattle.ledger_state.specs.Storages.{first_bare, least_bare}
use Rattle.ledger_state.proofs.Turns.{rest_of}
use Rattle.ledger_state.proofs.storages.least_bare.Given as goal

abbrev pub invariant-loop : goal.invariant-loop
invariant-loop l = record {
  left : length (rest_of l.book l.last) + l.counter ≤ l.count;
  so_far : first_bare l.cells.cells (rest_of l.book l.last) ≡ least_bare l.book l.cells.cells;
}
