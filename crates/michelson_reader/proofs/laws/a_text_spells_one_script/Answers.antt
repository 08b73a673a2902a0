-- By what is read of the one list of nodes that a text has.
use Rattle.michelson_reader.proofs.OneScript.{one_script}
use Rattle.michelson_reader.proofs.laws.a_text_spells_one_script.Goals as goal

pub returns : goal.returns
returns c = one_script
