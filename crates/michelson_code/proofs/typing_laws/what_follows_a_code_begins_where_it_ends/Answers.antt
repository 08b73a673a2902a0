-- By the instructions of the first code.
use Rattle.michelson_code.proofs.AppendLaws.{code_append, code_parts}
use Rattle.michelson_code.proofs.typing_laws.what_follows_a_code_begins_where_it_ends.Goals as goal

pub returns : goal.returns
returns c = record { whole = code_append; parts = code_parts }
