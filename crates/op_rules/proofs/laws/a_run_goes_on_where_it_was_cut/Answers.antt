-- By induction on the first operations.
use Rattle.op_rules.proofs.Running.{run_cut, run_of_none, run_of_one}
use Rattle.op_rules.proofs.laws.a_run_goes_on_where_it_was_cut.Goals as goal

pub returns : goal.returns
returns c = record { none = run_of_none; one = run_of_one; cut = run_cut }
