-- Access by access.
use Rattle.op_rules.proofs.Steady.{turns_on_replies}
use Rattle.op_rules.proofs.laws.an_operation_turns_on_its_replies.Goals as goal

pub returns : goal.returns
returns c = turns_on_replies
