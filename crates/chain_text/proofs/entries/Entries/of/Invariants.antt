-- What is found so far, and what is left.
use Rattle.std.proofs.Common.{length}
use Rattle.chain_text.proofs.EntriesLeft.{AreSoFar}
use Rattle.chain_text.proofs.entries.Entries.of.Given as goal

abbrev pub invariant-loop-row : goal.invariant-loop-row
invariant-loop-row l = AreSoFar l.address l.fn.self l.self l.found.items

abbrev pub decreases-loop-row : goal.decreases-loop-row
decreases-loop-row l = length l.self
