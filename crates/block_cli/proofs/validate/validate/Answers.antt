use Rattle.std.proofs.Common.{Result, sym, subst}
use Rattle.std.specs.Prelude.{IfOk}
use Rattle.byte_fields.specs.Stops.{Stop}
use Rattle.plain_ledger.specs.Ledger.{Ledger}
use Rattle.block_cli.specs.Validating.{ValidatesOn}
use Rattle.block_cli.specs.Inside.{answer_in}
use Rattle.block_cli.proofs.validate.validate.Goals as goal

pub returns-in-Ok : goal.returns-in-Ok
returns-in-Ok c =
    subst (λ (r : Result Ledger Stop). IfOk c.judged.result (λ a. ValidatesOn c.args.state.now c.args.next.now r c.args.block.now (answer_in a)))
    (sym c.in-Ok.ensures.told) (c.judged.ensures c.args.state.now)
