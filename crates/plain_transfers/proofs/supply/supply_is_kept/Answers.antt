-- The laws of the fold.
use Rattle.plain_transfers.proofs.Runs.{supply-run_on, AreBalances-run_on}
use Rattle.plain_transfers.proofs.supply.supply_is_kept.Goals as goal

pub returns-clause-supply : goal.returns-clause-supply
returns-clause-supply c = λ s. supply-run_on s.balances

pub returns-clause-lawful : goal.returns-clause-lawful
returns-clause-lawful c = λ s. AreBalances-run_on s.balances
