-- By the instruction's form.
use Rattle.michelson_code.specs.Inside.{count_of-is, weight_of-is}
use Rattle.michelson_code.proofs.laws.an_instruction_weighs_and_counts_its_bodies.Goals as goal

pub returns : goal.returns
returns c = record { weight = weight_of-is; count = count_of-is }
