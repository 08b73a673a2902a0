-- By the table of instructions, and by those of bodies first.
use Rattle.michelson_rules.proofs.Fair.{ends_by_itself}
use Rattle.michelson_rules.proofs.laws.a_code_fails_by_its_own_causes.Goals as goal

pub returns : goal.returns
returns c = ends_by_itself
