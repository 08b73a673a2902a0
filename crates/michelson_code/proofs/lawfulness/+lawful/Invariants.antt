-- The instructions so far are lawful. Each call is of fewer instructions, or of less of what holds them.
use Rattle.std.proofs.Common.{◌+◌, ◌*◌, [], ◌∷◌, sum_by, take}
use Rattle.std.specs.Prelude.{IsTrue}
use Rattle.std.specs.List.{list_all}
use Rattle.michelson_code.specs.Forms.{bodies}
use Rattle.michelson_code.specs.Lawful.{is_lawful_instr}
use Rattle.michelson_code.specs.Shown.{operand_shown, operands_shown}
use Rattle.michelson_code.specs.Weight.{code_count, count_of}
use Rattle.michelson_code.proofs.lawfulness.+lawful.Given as goal

abbrev pub invariant-code_is_lawful-loop-instr : goal.invariant-code_is_lawful-loop-instr
invariant-code_is_lawful-loop-instr l = IsTrue (list_all is_lawful_instr (take l.instr-index l.code))

abbrev pub decreases-code_is_lawful : goal.decreases-code_is_lawful
decreases-code_is_lawful l = 4 * code_count l.code.now + 1

abbrev pub decreases-instr_is_lawful : goal.decreases-instr_is_lawful
decreases-instr_is_lawful l = 4 * count_of l.instr.now

abbrev pub decreases-operands_are_lawful : goal.decreases-operands_are_lawful
decreases-operands_are_lawful l = 4 * sum_by code_count (bodies (operands_shown l.operands)) + 3

abbrev pub decreases-operand_is_lawful : goal.decreases-operand_is_lawful
decreases-operand_is_lawful l = 4 * sum_by code_count (bodies (operand_shown l.operand ∷ [])) + 2
