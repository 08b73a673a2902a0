-- Where no instruction is made, the word is told.
use Rattle.std.proofs.Common.{ap}
use Rattle.michelson_reader.specs.Operands.{formed}
use Rattle.michelson_reader.proofs.WordFaults.{told_as}
use Rattle.michelson_reader.proofs.code.formed.Goals as goal

pub returns-in-None : goal.returns-in-None
returns-in-None c =
    told_as c.args.at c.args.name.now c.no_form.result (formed c.args.at c.args.name.now c.args.instr) (ap (formed c.args.at c.args.name.now) c.in-None.is) c.no_form.ensures
