-- Each access keeps it, with what is in flight.
use Rattle.op_rules.proofs.SupplyStays.{supply_stays}
use Rattle.op_rules.proofs.laws.an_operation_keeps_the_supply.Goals as goal

pub returns : goal.returns
returns c = λ book head op opening. supply_stays opening book head op
