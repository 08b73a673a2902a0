-- The first operation that may change it did, or a later one.
use Rattle.op_rules.proofs.Running.{run_changes}
use Rattle.op_rules.proofs.laws.a_cell_that_a_run_changes_is_in_a_footprint.Goals as goal

pub returns : goal.returns
returns c = run_changes
