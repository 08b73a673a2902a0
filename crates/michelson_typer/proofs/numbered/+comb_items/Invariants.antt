-- Fewer items are left.
use Rattle.michelson_typer.proofs.numbered.+comb_items.Given as goal

abbrev pub decreases-comb_items : goal.decreases-comb_items
decreases-comb_items l = l.n
