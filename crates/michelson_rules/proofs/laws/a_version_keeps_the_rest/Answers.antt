-- What was put at another key isn't found.
use Rattle.michelson_rules.proofs.VersionLaws.{keeps_the_rest}
use Rattle.michelson_rules.proofs.laws.a_version_keeps_the_rest.Goals as goal

pub returns : goal.returns
returns c = keeps_the_rest
