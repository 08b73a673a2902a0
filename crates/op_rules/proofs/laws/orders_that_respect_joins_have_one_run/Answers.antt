-- By the order of those that conflict.
use Rattle.op_rules.proofs.JoinOrders.{keeps_conflicts}
use Rattle.op_rules.proofs.Reordering.{runs_in_another_order}
use Rattle.op_rules.specs.Orders.{entries_in}
use Rattle.op_rules.proofs.laws.orders_that_respect_joins_have_one_run.Goals as goal

pub returns : goal.returns
returns c = λ book head m n joins entries others cover o r runs. runs_in_another_order book head m n entries (entries_in others) (keeps_conflicts joins entries others cover o r) runs
