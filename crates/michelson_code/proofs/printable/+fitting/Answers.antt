-- An instruction is fit where its operands are.
use Rattle.std.proofs.Common.{◌∙◌, arith, sym}
use Rattle.michelson_code.specs.Shown.{shown}
use Rattle.michelson_code.specs.Inside.{one_count}
use Rattle.michelson_code.proofs.Folded.{body_fit, one_fit}
use Rattle.michelson_code.proofs.printable.+fitting.Goals as goal

pub instr_is_fit-operands_are_fit-requires : goal.instr_is_fit-operands_are_fit-requires
instr_is_fit-operands_are_fit-requires t c =
    (omega (arith, c.decreases, one_count c.args.instr.now (shown c.form_of.result) c.form_of.ensures), tt)

pub instr_is_fit-returns : goal.instr_is_fit-returns
instr_is_fit-returns t c = c.operands_are_fit.ensures ∙ sym (one_fit c.args.instr.now (shown c.form_of.result) c.form_of.ensures)

pub operand_is_fit-returns-in-Code : goal.operand_is_fit-returns-in-Code
operand_is_fit-returns-in-Code t c = rw c.in-Code.is (c.code_is_fit.ensures ∙ sym (body_fit c.in-Code.code.now))
