-- What is gathered, and what is left.
use Rattle.std.proofs.Common.{length}
use Rattle.ledger_cells.specs.Gathering.{IsGathered}
use Rattle.ledger_cells.proofs.settling.gather.Given as goal

abbrev pub invariant-loop-row : goal.invariant-loop-row
invariant-loop-row l = IsGathered l.fn.walk l.held l.walk

abbrev pub decreases-loop-row : goal.decreases-loop-row
decreases-loop-row l = length l.walk
