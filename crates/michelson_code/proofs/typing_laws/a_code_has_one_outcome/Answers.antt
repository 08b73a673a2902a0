-- By the two ways in which the code is typed.
use Rattle.michelson_code.proofs.OutcomeLaws.{code_once}
use Rattle.michelson_code.proofs.typing_laws.a_code_has_one_outcome.Goals as goal

pub returns : goal.returns
returns c = code_once
