-- By induction on the transfers.
use Rattle.op_rules.proofs.Growing.{begins_with, grows_transfers}
use Rattle.op_rules.proofs.laws.transfers_only_add_accesses.Goals as goal

pub returns : goal.returns
returns c = λ book head source calls ts m course. begins_with _ _ (grows_transfers book head source calls ts m course)
