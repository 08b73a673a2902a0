-- By what comes of cells that are added one after another.
use Rattle.ledger_state.proofs.BuiltLaws.{built_is, told_first}
use Rattle.ledger_state.proofs.laws.a_state_is_built_or_the_first_reason_is_told.Goals as goal

pub returns-clause-cells : goal.returns-clause-cells
returns-clause-cells c book rows m e = (built_is book rows m e).0

pub returns-clause-free : goal.returns-clause-free
returns-clause-free c book rows m e = (built_is book rows m e).1

pub returns-clause-told : goal.returns-clause-told
returns-clause-told c = told_first
