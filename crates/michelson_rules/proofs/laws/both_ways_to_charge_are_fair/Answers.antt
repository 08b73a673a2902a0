-- By their definitions.
use Rattle.michelson_rules.proofs.Fair.{charges_are_fair, still_is_fair}
use Rattle.michelson_rules.proofs.laws.both_ways_to_charge_are_fair.Goals as goal

pub returns : goal.returns
returns c = record { charges = charges_are_fair; still = still_is_fair }
