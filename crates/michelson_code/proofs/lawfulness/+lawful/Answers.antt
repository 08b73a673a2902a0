-- An instruction is lawful where the name of its entry and its operands are.
use Rattle.std.proofs.Common.{◌∙◌, arith}
use Rattle.std.proofs.lemmas.Bool.{and_from}
use Rattle.michelson_code.specs.Shown.{shown}
use Rattle.michelson_code.specs.Inside.{one_count}
use Rattle.michelson_code.proofs.Folded.{body_lawful, one_lawful}
use Rattle.michelson_code.proofs.lawfulness.+lawful.Goals as goal

pub instr_is_lawful-operands_are_lawful-requires : goal.instr_is_lawful-operands_are_lawful-requires
instr_is_lawful-operands_are_lawful-requires t c =
    (omega (arith, c.decreases, one_count c.args.instr.now (shown c.form_of-form.result) c.form_of-form.ensures), tt)

pub instr_is_lawful-returns : goal.instr_is_lawful-returns
instr_is_lawful-returns t c =
    one_lawful c.args.instr.now (shown c.form_of-form.result) c.form_of-form.ensures
    ∙ and_from _ _ c.entry_is_lawful.ensures c.operands_are_lawful.ensures

pub operand_is_lawful-returns-in-Code : goal.operand_is_lawful-returns-in-Code
operand_is_lawful-returns-in-Code t c = rw c.in-Code.is (body_lawful c.in-Code.code.now c.code_is_lawful.ensures)
