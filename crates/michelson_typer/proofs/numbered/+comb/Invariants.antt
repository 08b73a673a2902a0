-- Fewer items are left.
use Rattle.std.proofs.Common.{length}
use Rattle.michelson_typer.proofs.numbered.+comb.Given as goal

abbrev pub decreases-comb : goal.decreases-comb
decreases-comb l = length l.items.now
