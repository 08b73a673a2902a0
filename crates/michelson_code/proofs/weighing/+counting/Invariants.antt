-- The count so far is that of the front of the code. Each call is of fewer instructions, or of less of what holds them.
use Rattle.std.proofs.Common.{◌≡◌, ◌+◌, ◌-◌, ◌*◌, ◌^◌, [], ◌∷◌, min, take, sum_by}
use Rattle.michelson_code.specs.Forms.{bodies}
use Rattle.michelson_code.specs.Shown.{operand_shown, operands_shown}
use Rattle.michelson_code.specs.Weight.{code_count, count_of}
use Rattle.michelson_code.proofs.weighing.+counting.Given as goal

abbrev pub invariant-count-loop-instr : goal.invariant-count-loop-instr
invariant-count-loop-instr l = l.total ≡ min (code_count (take l.instr-index l.code)) (2 ^ 64 - 1)

abbrev pub decreases-count : goal.decreases-count
decreases-count l = 4 * code_count l.code.now + 1

abbrev pub decreases-count_of_one : goal.decreases-count_of_one
decreases-count_of_one l = 4 * count_of l.instr.now

abbrev pub decreases-count_inside : goal.decreases-count_inside
decreases-count_inside l = 4 * sum_by code_count (bodies (operands_shown l.operands)) + 3

abbrev pub decreases-count_behind : goal.decreases-count_behind
decreases-count_behind l = 4 * sum_by code_count (bodies (operand_shown l.operand ∷ [])) + 2
