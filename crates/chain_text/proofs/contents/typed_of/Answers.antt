-- By the check: typed, or with a fault.
use Rattle.ledger_state.proofs.ScriptTexts.{fault_told, run_told}
use Rattle.chain_text.proofs.contents.typed_of.Goals as goal

pub returns-in-Ok : goal.returns-in-Ok
returns-in-Ok c = run_told c.in-Ok.typed c.args.script c.in-Ok.ensures.typed

pub returns : goal.returns
returns c =
    let told = rw c.in-Err-Fault.field-0-is at c.in-Err-Fault.ensures.fault in
    fault_told c.args.script c.in-Err-Fault.field-0-0.path.items c.in-Err-Fault.field-0-0.kind told
