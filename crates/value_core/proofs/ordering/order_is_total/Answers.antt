-- The order is lawful.
use Rattle.value_core.proofs.TotalOrder.{order_lawful}
use Rattle.value_core.proofs.ordering.order_is_total.Goals as goal

pub returns : goal.returns
returns c = order_lawful
