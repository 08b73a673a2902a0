-- By the marks of the first run.
use Rattle.michelson_rules.proofs.Metering.{outcome_goes_on}
use Rattle.michelson_rules.proofs.laws.metering_goes_on.Goals as goal

pub returns : goal.returns
returns c = λ left run next. outcome_goes_on next left run
