-- The text says the state that is written.
use Rattle.std.proofs.Common.{◌≡◌, Result, sym, subst}
use Rattle.std.specs.Prelude.{IfOk}
use Rattle.ledger_state.specs.Ledger.{Ledger}
use Rattle.chain_text.specs.declared.fault.ChainFault.{ChainFault}
use Rattle.block_cli.specs.Genesis.{founding}
use Rattle.block_cli.specs.Inside.{answer_in}
use Rattle.block_cli.proofs.genesis.genesis.Goals as goal

pub returns-in-Ok : goal.returns-in-Ok
returns-in-Ok c =
    subst (λ (r : Result Ledger ChainFault). IfOk c.founding.result (λ a. answer_in a ≡ founding c.args.text.now c.args.state.now r))
    (sym c.in-Ok.ensures.found) (c.founding.ensures c.args.text.now)
