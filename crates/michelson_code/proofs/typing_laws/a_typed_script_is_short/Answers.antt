-- It is a line of the definition.
use Rattle.michelson_code.proofs.typing_laws.a_typed_script_is_short.Goals as goal

pub returns : goal.returns
returns c s typed = typed.count
