-- A version behind them changes none.
use Rattle.michelson_rules.proofs.VersionLaws.{keeps_older}
use Rattle.michelson_rules.proofs.laws.a_change_leaves_other_versions.Goals as goal

pub returns : goal.returns
returns c = keeps_older
