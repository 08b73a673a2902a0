-- By the instructions of bodies first.
use Rattle.michelson_rules.proofs.Fair.{costs_for_turns, costs_its_weight}
use Rattle.michelson_rules.proofs.laws.a_code_costs_at_most_its_weight_a_turn.Goals as goal

pub returns : goal.returns
returns c = record { taken = costs_its_weight; given = costs_for_turns }
