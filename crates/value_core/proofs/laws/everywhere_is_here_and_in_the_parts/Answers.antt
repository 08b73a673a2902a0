-- By recursion on the value.
use Rattle.value_core.proofs.Everywhere.{everywhere-is}
use Rattle.value_core.proofs.laws.everywhere_is_here_and_in_the_parts.Goals as goal

pub returns : goal.returns
returns c = everywhere-is
