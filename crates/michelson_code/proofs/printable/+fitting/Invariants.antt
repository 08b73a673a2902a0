-- The instructions so far are fit. Each call is of fewer instructions, or of less of what holds them.
use Rattle.std.proofs.Common.{◌+◌, ◌*◌, [], ◌∷◌, sum_by, take}
use Rattle.std.specs.Prelude.{IsTrue}
use Rattle.std.specs.List.{list_all}
use Rattle.michelson_code.specs.Forms.{bodies}
use Rattle.michelson_code.specs.Printable.{is_fit}
use Rattle.michelson_code.specs.Shown.{operand_shown, operands_shown}
use Rattle.michelson_code.specs.Weight.{code_count, count_of}
use Rattle.michelson_code.proofs.printable.+fitting.Given as goal

abbrev pub invariant-code_is_fit-loop-instr : goal.invariant-code_is_fit-loop-instr
invariant-code_is_fit-loop-instr l = IsTrue (list_all is_fit (take l.instr-index l.code))

abbrev pub decreases-code_is_fit : goal.decreases-code_is_fit
decreases-code_is_fit l = 4 * code_count l.code.now + 1

abbrev pub decreases-instr_is_fit : goal.decreases-instr_is_fit
decreases-instr_is_fit l = 4 * count_of l.instr.now

abbrev pub decreases-operands_are_fit : goal.decreases-operands_are_fit
decreases-operands_are_fit l = 4 * sum_by code_count (bodies (operands_shown l.operands)) + 3

abbrev pub decreases-operand_is_fit : goal.decreases-operand_is_fit
decreases-operand_is_fit l = 4 * sum_by code_count (bodies (operand_shown l.operand ∷ [])) + 2
