-- By the lines of each instruction, and because no instruction on data looks below its operands.
use Rattle.michelson_rules.proofs.DataFrames.{data_answered}
use Rattle.michelson_rules.proofs.PlainAnswered.{plain_answered}
use Rattle.michelson_rules.proofs.TypedLevelLaws.{plain_typing}
use Rattle.michelson_rules.proofs.operand_laws.operands_of_a_line_are_answered.Goals as goal

pub returns-clause-data : goal.returns-clause-data
returns-clause-data c = data_answered

pub returns-clause-plain : goal.returns-clause-plain
returns-clause-plain c s env x before after stack within well applies alone has = plain_answered plain_typing s env within x before after applies alone well stack has
