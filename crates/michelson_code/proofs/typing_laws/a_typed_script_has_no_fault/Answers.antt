-- By the whole, the code and its end.
use Rattle.michelson_code.proofs.ScriptLaws.{script_none}
use Rattle.michelson_code.proofs.typing_laws.a_typed_script_has_no_fault.Goals as goal

pub returns : goal.returns
returns c = script_none
