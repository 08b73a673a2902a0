-- The first one goes before all that stand before it, and so on with the rest.
use Rattle.op_rules.proofs.Reordering.{runs_in_another_order}
use Rattle.op_rules.proofs.laws.orders_that_keep_conflicts_have_one_run.Goals as goal

pub returns : goal.returns
returns c = runs_in_another_order
