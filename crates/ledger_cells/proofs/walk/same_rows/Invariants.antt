-- The cells so far are the same.
use Rattle.std.proofs.Common.{◌≡◌, length}
use Rattle.std.specs.Prelude.{◌↔◌}
use Rattle.ledger_cells.proofs.walk.same_rows.Given as goal

abbrev pub invariant-rows : goal.invariant-rows
invariant-rows l = (l.fn.a ≡ l.fn.b) ↔ (l.a ≡ l.b)

abbrev pub decreases-rows : goal.decreases-rows
decreases-rows l = length l.a
