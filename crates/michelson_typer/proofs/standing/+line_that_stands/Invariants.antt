-- Fewer lines are left.
use Rattle.std.proofs.Common.{length}
use Rattle.michelson_typer.proofs.standing.+line_that_stands.Given as goal

abbrev pub decreases-line_that_stands : goal.decreases-line_that_stands
decreases-line_that_stands l = length l.lines.now
