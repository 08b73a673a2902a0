-- By the way in which the instruction is typed.
use Rattle.michelson_code.proofs.InversionLaws.{found}
use Rattle.michelson_code.proofs.typing_laws.a_typed_instruction_finds_its_operands.Goals as goal

pub returns : goal.returns
returns c = found
