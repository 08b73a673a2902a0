-- By what is read of the one list of nodes that a text has.
use Rattle.michelson_reader.proofs.OneScript.{own_text}
use Rattle.michelson_reader.proofs.laws.two_scripts_never_share_a_text.Goals as goal

pub returns : goal.returns
returns c = own_text
