-- By the instructions of bodies first.
use Rattle.michelson_rules.proofs.HushedRules.{rules_hushed}
use Rattle.michelson_rules.proofs.laws.charges_are_marks_alone.Goals as goal

pub returns : goal.returns
returns c = rules_hushed
