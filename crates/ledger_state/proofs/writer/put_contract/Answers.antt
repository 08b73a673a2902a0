-- The text is short, and is read again as the script.
use Rattle.std.proofs.Common.{◌<◌, ◌^◌, length, arith}
use Rattle.michelson_reader.specs.Printed.{script_text}
use Rattle.michelson_reader.specs.Script.{IsScriptOf}
use Rattle.ledger_state.proofs.ScriptTexts.{on_ok, printed_again, short_text}
use Rattle.ledger_state.proofs.writer.put_contract.Goals as goal

pub overflow_cast-len : goal.overflow_cast-len
overflow_cast-len c =
    let small : length c.in_ok-text.text.items < 2 ^ 32 = short_text c.args.typed.now.script c.script.result.now c.in_ok-text.text.items c.requires.short c.script.ensures.script c.in_ok-text.ensures.text in
    omega (arith, c.len.ensures)

pub returns-clause-again : goal.returns-clause-again
returns-clause-again c =
    on_ok (IsScriptOf (script_text c.args.typed.now.script) c.args.typed.now.script) c.extend_from_slice-3.result
    (printed_again c.args.typed.now.script c.script.result.now c.in_ok-text.text.items c.script.ensures.script c.in_ok-text.ensures.text c.script.ensures.typed c.in_ok-text.ensures.again)
