-- The runs are the same, mark by mark.
use Rattle.op_rules.proofs.AlikeRules.{same_script_outcome}
use Rattle.op_rules.proofs.laws.worlds_that_answer_alike_run_alike.Goals as goal

pub returns : goal.returns
returns c = λ s env w v left param storage. same_script_outcome w v s env left param storage
