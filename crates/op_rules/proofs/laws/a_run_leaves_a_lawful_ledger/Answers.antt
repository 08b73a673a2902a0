-- So does each operation.
use Rattle.op_rules.proofs.LawfulLedgers.{run_leaves_lawful}
use Rattle.op_rules.proofs.laws.a_run_leaves_a_lawful_ledger.Goals as goal

pub returns : goal.returns
returns c = run_leaves_lawful
