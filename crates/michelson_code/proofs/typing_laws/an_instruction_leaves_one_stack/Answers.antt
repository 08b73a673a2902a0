-- By the lines of its operands, and by as many items as it says.
use Rattle.std.proofs.Common.{refl}
use Rattle.michelson_code.specs.declared.instr.Instr.TheViews.{out-Instr}
use Rattle.michelson_code.proofs.OutcomeLaws.{one_after}
use Rattle.michelson_code.proofs.typing_laws.an_instruction_leaves_one_stack.Goals as goal

pub returns : goal.returns
returns c = λ s i b t u first second. one_after s (out-Instr i) b b t u first second refl
