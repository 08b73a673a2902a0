-- By induction on the types.
use Rattle.op_rules.proofs.SameTypes.{same_types}
use Rattle.op_rules.proofs.laws.same_types_are_equal.Goals as goal

pub returns : goal.returns
returns c = same_types
