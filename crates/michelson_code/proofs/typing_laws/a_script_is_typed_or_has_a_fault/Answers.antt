-- By the first kind that holds of the whole, by its instructions, and by its end.
use Rattle.michelson_code.proofs.DecidedScript.{script_answer}
use Rattle.michelson_code.proofs.typing_laws.a_script_is_typed_or_has_a_fault.Goals as goal

pub returns : goal.returns
returns c = script_answer
