-- By the script that the text is read as, or by its fault.
use Rattle.std.specs.Option.{option_map}
use Rattle.chain_text.proofs.ContentLemmas.{faulty_script, told_of_script}
use Rattle.chain_text.proofs.contents.script_of.Goals as goal

pub returns-in-Ok : goal.returns-in-Ok
returns-in-Ok c = told_of_script (option_map (λ t. t.script)) c.typed_of.result c.args.text.now c.in-Ok.script c.in-Ok.ensures.found c.typed_of.ensures

pub returns-else-is_want_of_memory : goal.returns-else-is_want_of_memory
returns-else-is_want_of_memory c =
    faulty_script c.args.text.now c.in-Err.fault c.is_want_of_memory.result (c.bytes_are_a_script_or_have_one_fault.ensures.never_both c.args.text.now) c.in-Err.ensures.fault c.is_want_of_memory.ensures c.if-is_want_of_memory.false
