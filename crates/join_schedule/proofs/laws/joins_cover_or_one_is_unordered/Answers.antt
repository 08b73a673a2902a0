use Rattle.join_schedule.proofs.Deciding.{cover_or_first}
use Rattle.join_schedule.proofs.laws.joins_cover_or_one_is_unordered.Goals as goal

pub returns : goal.returns
returns c joins footprints good paired up = cover_or_first joins good footprints paired up
