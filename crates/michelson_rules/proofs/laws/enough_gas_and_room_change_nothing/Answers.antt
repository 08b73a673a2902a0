-- By the marks.
use Rattle.michelson_rules.proofs.Budgets.{lasts_to_its_end, leaves_the_rest}
use Rattle.michelson_rules.proofs.laws.enough_gas_and_room_change_nothing.Goals as goal

pub returns : goal.returns
returns c = record { end = lasts_to_its_end; rest = leaves_the_rest }
