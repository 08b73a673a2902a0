-- By the marks.
use Rattle.michelson_rules.proofs.Budgets.{with_more_gas, with_more_room}
use Rattle.michelson_rules.proofs.laws.what_is_more_is_left.Goals as goal

pub returns : goal.returns
returns c = record { gas = with_more_gas; room = with_more_room }
