-- Its run ends by itself, so a cut shows that too much is spent.
use Rattle.michelson_rules.proofs.ScriptLaws.{script_passes_gas, script_passes_room, weight_is_enough}
use Rattle.michelson_rules.proofs.laws.a_script_is_cut_where_it_spends_too_much.Goals as goal

pub returns : goal.returns
returns c = record { gas = script_passes_gas; room = script_passes_room; weight = weight_is_enough }
