-- No effect is kept.
use Rattle.op_rules.specs.Serial.{serial}
use Rattle.op_rules.proofs.SupplyStays.{left_if_failed}
use Rattle.op_rules.proofs.laws.a_failed_operation_changes_nothing.Goals as goal

pub returns : goal.returns
returns c = λ book head op opening why failed. left_if_failed opening (serial book head op opening) why failed
