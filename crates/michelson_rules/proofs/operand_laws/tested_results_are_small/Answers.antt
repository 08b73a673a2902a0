-- By the test of each.
use Rattle.michelson_rules.proofs.SmallResults.{gathered_is_small, old_is_above, tested_are_small}
use Rattle.michelson_rules.proofs.operand_laws.tested_results_are_small.Goals as goal

pub returns : goal.returns
returns c = record { results = tested_are_small; old = old_is_above; mapped = gathered_is_small }
