-- Each access keeps it.
use Rattle.op_rules.proofs.Landing.{gets_replies}
use Rattle.op_rules.proofs.laws.an_operation_is_its_accesses.Goals as goal

pub returns : goal.returns
returns c = λ book head op opening. gets_replies opening book head op
