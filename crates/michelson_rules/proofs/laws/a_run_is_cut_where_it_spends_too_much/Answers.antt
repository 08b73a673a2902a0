-- By the marks.
use Rattle.michelson_rules.proofs.Budgets.{gas_is_passed, gas_runs_out, room_is_passed, room_runs_out}
use Rattle.michelson_rules.proofs.laws.a_run_is_cut_where_it_spends_too_much.Goals as goal

pub returns : goal.returns
returns c = record {
  only_gas = gas_is_passed;
  only_room = room_is_passed;
  gas = gas_runs_out;
  room = room_runs_out;
}
