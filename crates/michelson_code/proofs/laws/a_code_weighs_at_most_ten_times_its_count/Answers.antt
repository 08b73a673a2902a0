-- By the instructions of bodies first.
use Rattle.michelson_code.proofs.WeightBounds.{weighs_little}
use Rattle.michelson_code.proofs.laws.a_code_weighs_at_most_ten_times_its_count.Goals as goal

pub returns : goal.returns
returns c = weighs_little
