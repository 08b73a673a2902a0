-- By the script that the text is read as, or by its fault.
use Rattle.std.specs.Option.{option_map}
use Rattle.ledger_state.proofs.ScriptTexts.{faulty_text, told_of_script}
use Rattle.ledger_state.proofs.script.script_in.Goals as goal

pub returns-in-Ok : goal.returns-in-Ok
returns-in-Ok c = told_of_script (option_map (λ t. t.script)) c.printed_in.result c.args.text.now c.in-Ok.script c.in-Ok.ensures.found c.printed_in.ensures

pub returns-else-is_full : goal.returns-else-is_full
returns-else-is_full c =
    faulty_text c.args.text.now c.in-Err.fault c.is_full.result (c.bytes_are_a_script_or_have_one_fault.ensures.never_both c.args.text.now) c.in-Err.ensures.fault c.is_full.ensures c.if-is_full.false
