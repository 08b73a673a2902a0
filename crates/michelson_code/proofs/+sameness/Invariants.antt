-- The fronts that were compared are equal. Each call is of fewer instructions, or of less of what holds them.
use Rattle.std.proofs.Common.{◌≡◌, ◌+◌, ◌*◌, [], ◌∷◌, take, sum_by}
use Rattle.michelson_code.specs.Forms.{bodies}
use Rattle.michelson_code.specs.Shown.{operand_shown, operands_shown}
use Rattle.michelson_code.specs.Weight.{code_count, count_of}
use Rattle.michelson_code.proofs.+sameness.Given as goal

abbrev pub invariant-sameness::same_code-loop-i : goal.invariant-sameness::same_code-loop-i
invariant-sameness::same_code-loop-i l = take l.i l.a ≡ take l.i l.b

abbrev pub decreases-instr::Instr::same : goal.decreases-instr::Instr::same
decreases-instr::Instr::same l = 4 * count_of l.self.now

abbrev pub decreases-sameness::same_code : goal.decreases-sameness::same_code
decreases-sameness::same_code l = 4 * code_count l.a.now + 1

abbrev pub decreases-sameness::same_operands : goal.decreases-sameness::same_operands
decreases-sameness::same_operands l = 4 * sum_by code_count (bodies (operands_shown l.a)) + 3

abbrev pub decreases-sameness::same_operand : goal.decreases-sameness::same_operand
decreases-sameness::same_operand l = 4 * sum_by code_count (bodies (operand_shown l.a ∷ [])) + 2
