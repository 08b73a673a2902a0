-- Each cell that is seen has the same, access by access.
use Rattle.op_rules.proofs.Swapping.{turns_on_what_is_seen}
use Rattle.op_rules.proofs.laws.an_operation_turns_on_what_it_sees.Goals as goal

pub returns : goal.returns
returns c = turns_on_what_is_seen
