-- A word alone with nothing found for it.
use Rattle.std.proofs.Common.{sym}
use Rattle.michelson_reader.proofs.WordFaults.{not_alone}
use Rattle.michelson_reader.proofs.code.alone.Goals as goal

pub returns-in-None : goal.returns-in-None
returns-in-None c = not_alone c.args.at c.args.name.now c.no_form.result c.args.notes.now (sym c.if-is_word.ensures) (sym c.in-None.ensures) c.no_form.ensures
