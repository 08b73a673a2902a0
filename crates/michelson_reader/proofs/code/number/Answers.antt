-- An application where a number is due.
use Rattle.michelson_reader.specs.CodeFaults.{number}
use Rattle.michelson_reader.proofs.NodeReads.{number_prim}
use Rattle.michelson_reader.proofs.WordFaults.{told_as}
use Rattle.michelson_reader.proofs.code.number.Goals as goal

pub returns-in-Prim : goal.returns-in-Prim
returns-in-Prim c =
    told_as c.args.n.now.at c.in-Prim.name c.no_form.result (number c.args.at c.args.least c.args.n.now)
    (number_prim c.args.at c.args.least c.args.n.now c.in-Prim.name c.in-Prim.notes c.in-Prim.args c.in-Prim.is) (rw c.as_slice.ensures at c.no_form.ensures)
