-- What an operation on data makes of a stack.
use Rattle.std.specs.Prelude.{List}
use Rattle.value_core.specs.declared.val.Val.{Val}
use Rattle.michelson_rules.specs.Answers.{Answered}
use Rattle.michelson_rules.specs.Bodies.{Meaning}
use Rattle.michelson_rules.specs.Plain.{data_at}
use Rattle.michelson_data.specs.declared.op.DataOp.{DataOp}
use Rattle.michelson_data.specs.Form.{form}

-- as the table says
abbrev pub made_by : DataOp → List Val → Answered
made_by op = data_at {A = Meaning} (form op)
