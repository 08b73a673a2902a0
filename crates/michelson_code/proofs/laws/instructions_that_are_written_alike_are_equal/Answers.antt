-- Each form is rebuilt from its word, the name of its entry and its operands.
use Rattle.michelson_code.proofs.Determined.{determined}
use Rattle.michelson_code.proofs.laws.instructions_that_are_written_alike_are_equal.Goals as goal

pub returns : goal.returns
returns c = determined
