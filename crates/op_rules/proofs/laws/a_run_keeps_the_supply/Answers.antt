-- Each operation keeps it.
use Rattle.op_rules.proofs.Running.{run_keeps_the_supply}
use Rattle.op_rules.proofs.laws.a_run_keeps_the_supply.Goals as goal

pub returns : goal.returns
returns c = run_keeps_the_supply
