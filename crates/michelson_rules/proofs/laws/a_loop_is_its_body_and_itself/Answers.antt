-- No run returns more turns than it had, so the bound on the times is never met.
use Rattle.michelson_rules.specs.Bodies.{while_left, while_true}
use Rattle.michelson_rules.proofs.Loops.{loops_on}
use Rattle.michelson_rules.proofs.laws.a_loop_is_its_body_and_itself.Goals as goal

pub returns : goal.returns
returns c = record {
  while_true = λ price fair s env w. loops_on price fair s env w while_true;
  while_left = λ price fair s env w. loops_on price fair s env w while_left;
}
