-- Each access that changes a cell touches it so.
use Rattle.op_rules.proofs.Changing.{changes_are_touched}
use Rattle.op_rules.proofs.laws.a_changed_cell_is_in_the_footprint.Goals as goal

pub returns : goal.returns
returns c = λ book head op opening. changes_are_touched opening book head op
