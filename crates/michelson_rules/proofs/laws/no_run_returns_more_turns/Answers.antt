-- By the instructions of bodies first.
use Rattle.michelson_rules.proofs.Fair.{keeps_turns}
use Rattle.michelson_rules.proofs.laws.no_run_returns_more_turns.Goals as goal

pub returns : goal.returns
returns c = keeps_turns
