-- Each access fits where it is made.
use Rattle.op_rules.proofs.LawfulLedgers.{makes_fit}
use Rattle.op_rules.proofs.laws.an_operation_makes_fit_accesses.Goals as goal

pub returns : goal.returns
returns c = makes_fit
