-- By the definition of a change, and by the order of keys.
use Rattle.std.proofs.Common.{refl}
use Rattle.michelson_rules.proofs.VersionLaws.{stays_ascending}
use Rattle.michelson_rules.proofs.laws.a_change_makes_the_next_version.Goals as goal

pub returns : goal.returns
returns c = record { next = λ k choice beside. refl; ascending = stays_ascending }
