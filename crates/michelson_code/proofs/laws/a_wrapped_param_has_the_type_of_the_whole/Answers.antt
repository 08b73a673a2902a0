-- By the ways from the root.
use Rattle.michelson_code.proofs.Wrapping.{wrapped_has_type}
use Rattle.michelson_code.proofs.laws.a_wrapped_param_has_the_type_of_the_whole.Goals as goal

pub returns : goal.returns
returns c = wrapped_has_type
