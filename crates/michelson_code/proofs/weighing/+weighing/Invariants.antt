-- The weight so far is that of the front of the code. Each call is of fewer instructions, or of less of what holds them.
use Rattle.std.proofs.Common.{◌≡◌, ◌+◌, ◌-◌, ◌*◌, ◌^◌, [], ◌∷◌, min, take, sum_by}
use Rattle.michelson_code.specs.Forms.{bodies}
use Rattle.michelson_code.specs.Shown.{operand_shown, operands_shown}
use Rattle.michelson_code.specs.Weight.{code_count, code_weight, count_of}
use Rattle.michelson_code.proofs.weighing.+weighing.Given as goal

abbrev pub invariant-weight-loop-instr : goal.invariant-weight-loop-instr
invariant-weight-loop-instr l = l.total ≡ min (code_weight (take l.instr-index l.code)) (2 ^ 64 - 1)

abbrev pub decreases-weight : goal.decreases-weight
decreases-weight l = 4 * code_count l.code.now + 1

abbrev pub decreases-weight_of_one : goal.decreases-weight_of_one
decreases-weight_of_one l = 4 * count_of l.instr.now

abbrev pub decreases-weight_inside : goal.decreases-weight_inside
decreases-weight_inside l = 4 * sum_by code_count (bodies (operands_shown l.operands)) + 3

abbrev pub decreases-weight_behind : goal.decreases-weight_behind
decreases-weight_behind l = 4 * sum_by code_count (bodies (operand_shown l.operand ∷ [])) + 2
