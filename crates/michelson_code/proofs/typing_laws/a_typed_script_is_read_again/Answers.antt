-- By the code and its bodies.
use Rattle.michelson_code.proofs.PrintLaws.{typed_prints}
use Rattle.michelson_code.proofs.typing_laws.a_typed_script_is_read_again.Goals as goal

pub returns : goal.returns
returns c = typed_prints
