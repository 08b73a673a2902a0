-- All instructions are within so many brackets where those that are left are. Each call is of fewer instructions, or of less of what holds them.
use Rattle.std.proofs.Common.{◌+◌, ◌-◌, ◌*◌, [], ◌∷◌, drop, map, sum_by}
use Rattle.std.specs.Prelude.{◌≤◌, ◌↔◌}
use Rattle.value_core.specs.Depth.{greatest}
use Rattle.michelson_code.specs.Brackets.{brackets_of}
use Rattle.michelson_code.specs.Forms.{bodies}
use Rattle.michelson_code.specs.Shown.{operand_shown, operands_shown}
use Rattle.michelson_code.specs.Weight.{code_count, count_of}
use Rattle.michelson_code.proofs.brackets.+code_bracketing.Given as goal

abbrev pub invariant-code_within-loop-instr : goal.invariant-code_within-loop-instr
invariant-code_within-loop-instr l =
    (greatest (map brackets_of l.code) ≤ l.most - 1) ↔ (greatest (map brackets_of (drop l.instr-index l.code)) ≤ l.most - 1)

abbrev pub decreases-code_within : goal.decreases-code_within
decreases-code_within l = 4 * code_count l.code.now + 1

abbrev pub decreases-instr_within : goal.decreases-instr_within
decreases-instr_within l = 4 * count_of l.instr.now

abbrev pub decreases-operands_within : goal.decreases-operands_within
decreases-operands_within l = 4 * sum_by code_count (bodies (operands_shown l.operands)) + 3

abbrev pub decreases-operand_within : goal.decreases-operand_within
decreases-operand_within l = 4 * sum_by code_count (bodies (operand_shown l.operand ∷ [])) + 2
