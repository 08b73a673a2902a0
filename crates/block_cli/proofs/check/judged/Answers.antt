-- By what the type check answers.
use Rattle.std.proofs.Common.{ap}
use Rattle.block_cli.specs.Inside.{files_in}
use Rattle.block_cli.proofs.Checked.{answer_may_run, answer_untyped}
use Rattle.block_cli.proofs.check.judged.Goals as goal

pub returns-in_ok-typed-in-Ok : goal.returns-in_ok-typed-in-Ok
returns-in_ok-typed-in-Ok c =
    answer_may_run c.args.code.now c.args.bytes.now c.args.script c.in-Ok.typed.script _ _ c.requires c.in-Ok.ensures.typed c.in-Ok.typed.typed
    c.in_ok-typed-in-Ok.ensures (ap files_in c.new.ensures.items)

pub returns-in_ok-untyped-in-Err-Fault : goal.returns-in_ok-untyped-in-Err-Fault
returns-in_ok-untyped-in-Err-Fault c =
    answer_untyped c.args.code.now c.args.bytes.now c.args.script _ c.in-Err-Fault.fault _ c.requires c.in-Err-Fault.field-0-is c.in-Err-Fault.ensures.fault
    c.in_ok-untyped-in-Err-Fault.ensures
