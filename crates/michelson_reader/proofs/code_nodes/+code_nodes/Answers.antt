-- An instruction has one more than the bodies of its form, and its node is that of its form.
use Rattle.std.proofs.Common.{arith, rules}
use Rattle.michelson_code.specs.Inside.{one_count}
use Rattle.michelson_code.specs.Shown.{shown}
use Rattle.michelson_reader.proofs.CodeNodes.{node_told}
use Rattle.michelson_reader.proofs.code_nodes.+code_nodes.Goals as goal

pub instruction_node-operand_nodes-requires : goal.instruction_node-operand_nodes-requires
instruction_node-operand_nodes-requires t c =
    (omega (arith, c.decreases, one_count c.args.instr.now (shown c.form_of-form.result) c.form_of-form.ensures), tt)

pub instruction_node-returns : goal.instruction_node-returns
instruction_node-returns t c =
    node_told c.args.instr.now (shown c.form_of-form.result) c.as_bytes.result.now c.in_ok-notes.notes c.in_ok-args.args c.word.result c.form_of-form.ensures
    (search rules) c.in_ok-notes.ensures c.in_ok-args.ensures c.word.ensures
