-- By the instructions of the first.
use Rattle.michelson_rules.proofs.ThenDo.{rules-append}
use Rattle.michelson_rules.proofs.laws.codes_run_one_after_another.Goals as goal

pub returns : goal.returns
returns c = λ price s env w c d stack beside. rules-append price s env w c d stack beside
