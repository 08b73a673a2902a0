-- By the script that the text is read as, and whether it may run.
use Rattle.ledger_state.proofs.ScriptTexts.{printed_is_script, script_is_printed}
use Rattle.ledger_state.proofs.laws.a_text_is_a_script_where_it_is_printed.Goals as goal

pub returns : goal.returns
returns c text s = (script_is_printed text s, printed_is_script text s)
