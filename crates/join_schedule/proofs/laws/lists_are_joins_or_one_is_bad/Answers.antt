use Rattle.join_schedule.proofs.Deciding.{joins_or_bad}
use Rattle.join_schedule.proofs.laws.lists_are_joins_or_one_is_bad.Goals as goal

pub returns : goal.returns
returns c = joins_or_bad
