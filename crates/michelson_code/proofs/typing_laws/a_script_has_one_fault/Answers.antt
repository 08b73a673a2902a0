-- By the two places and the two kinds.
use Rattle.michelson_code.proofs.ScriptLaws.{script_fault_once}
use Rattle.michelson_code.proofs.typing_laws.a_script_has_one_fault.Goals as goal

pub returns : goal.returns
returns c = script_fault_once
