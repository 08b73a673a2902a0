-- The run keeps its turns, and the budget counts them alike.
use Rattle.michelson_rules.specs.Metered.{run_of}
use Rattle.michelson_rules.proofs.Budgets.{same_turns}
use Rattle.michelson_rules.proofs.Fair.{script_keeps_turns}
use Rattle.michelson_rules.proofs.laws.a_script_returns_the_turns_that_are_left.Goals as goal

pub returns : goal.returns
returns c = λ s env w left param storage stack beside.
    same_turns left (run_of s env w left param storage).marks (run_of s env w left param storage).ending stack beside (script_keeps_turns s env w left param storage)
