-- By induction on the instructions of the code.
use Rattle.michelson_rules.proofs.TypedCodes.{typed_code_goes}
use Rattle.michelson_rules.proofs.typed_laws.typed_codes_go_to_their_outcome.Goals as goal

pub returns : goal.returns
returns c = typed_code_goes
