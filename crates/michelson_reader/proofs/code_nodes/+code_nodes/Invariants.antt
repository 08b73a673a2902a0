-- The nodes so far. Each call is of fewer instructions, or of less of what holds them.
use Rattle.std.proofs.Common.{◌≡◌, ◌+◌, ◌*◌, [], ◌∷◌, map, take, sum_by}
use Rattle.michelson_code.specs.Forms.{bodies}
use Rattle.michelson_code.specs.Shown.{operand_shown, operands_shown}
use Rattle.michelson_code.specs.Weight.{code_count, count_of}
use Rattle.michelson_reader.specs.Printed.{instruction_node}
use Rattle.michelson_reader.proofs.code_nodes.+code_nodes.Given as goal

abbrev pub invariant-code_node-loop-instr : goal.invariant-code_node-loop-instr
invariant-code_node-loop-instr l = l.nodes ≡ map instruction_node (take l.instr-index l.code)

abbrev pub decreases-code_node : goal.decreases-code_node
decreases-code_node l = 4 * code_count l.code.now + 1

abbrev pub decreases-instruction_node : goal.decreases-instruction_node
decreases-instruction_node l = 4 * count_of l.instr.now

abbrev pub decreases-operand_nodes : goal.decreases-operand_nodes
decreases-operand_nodes l = 4 * sum_by code_count (bodies (operands_shown l.operands)) + 3

abbrev pub decreases-operand_node : goal.decreases-operand_node
decreases-operand_node l = 4 * sum_by code_count (bodies (operand_shown l.operand ∷ [])) + 2
