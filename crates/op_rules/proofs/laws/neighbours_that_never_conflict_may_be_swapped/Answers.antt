-- Each leaves what the other sees, and their accesses may be exchanged.
use Rattle.op_rules.proofs.Swapping.{swapped}
use Rattle.op_rules.proofs.laws.neighbours_that_never_conflict_may_be_swapped.Goals as goal

pub returns : goal.returns
returns c = swapped
