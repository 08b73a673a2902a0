-- By induction on the operations.
use Rattle.op_rules.proofs.Running.{run_tells_of_each}
use Rattle.op_rules.proofs.laws.a_run_tells_of_each_operation.Goals as goal

pub returns : goal.returns
returns c = run_tells_of_each
