-- What was put last is found.
use Rattle.michelson_rules.proofs.VersionLaws.{has_its_change}
use Rattle.michelson_rules.proofs.laws.a_version_has_its_change.Goals as goal

pub returns : goal.returns
returns c = has_its_change
