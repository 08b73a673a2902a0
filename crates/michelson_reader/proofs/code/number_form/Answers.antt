-- The instruction that the word makes of the number.
use Rattle.std.proofs.Common.{◌≡◌}
use Rattle.michelson_reader.specs.Operands.{number_form}
use Rattle.michelson_reader.specs.TypeFaults.{no_form}
use Rattle.michelson_reader.proofs.FormReads.{number_made, number_not_made}
use Rattle.michelson_reader.proofs.WordFaults.{told_as}
use Rattle.michelson_reader.proofs.code.number_form.Goals as goal

pub returns-in-Some : goal.returns-in-Some
returns-in-Some c =
    rw c.in_ok-n.ensures (number_made c.args.at c.args.name.now c.in_ok-n.n c.in-Some.field-0-0 c.in-Some.instr c.in-Some.ensures)

pub returns-in-None : goal.returns-in-None
returns-in-None c =
    let none : number_form c.args.at c.args.name.now c.args.least c.args.operand.now ≡ no_form c.args.at c.args.name.now =
    rw c.in_ok-n.ensures (number_not_made c.args.at c.args.name.now c.in_ok-n.n c.in-None.ensures) in
    told_as c.args.at c.args.name.now c.no_form.result (number_form c.args.at c.args.name.now c.args.least c.args.operand.now) none c.no_form.ensures
