-- Each access keeps the cells lawful, and each storage stays there.
use Rattle.op_rules.proofs.LawfulLedgers.{leaves_lawful}
use Rattle.op_rules.proofs.laws.an_operation_leaves_a_lawful_ledger.Goals as goal

pub returns : goal.returns
returns c = leaves_lawful
