-- The sums over two lists one after another add up.
use Rattle.michelson_code.specs.Inside.{code_count-append, code_weight-append}
use Rattle.michelson_code.proofs.laws.codes_one_after_another_add_up.Goals as goal

pub returns : goal.returns
returns c = record { weight = code_weight-append; count = code_count-append }
