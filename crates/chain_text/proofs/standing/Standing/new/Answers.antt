-- No row stands.
use Rattle.chain_text.proofs.RowLemmas.{no_rows}
use Rattle.chain_text.proofs.standing.Standing.new.Goals as goal

pub invariant_of-result : goal.invariant_of-result
invariant_of-result c = no_rows c.new.result c.new-3.result c.new-4.result c.new-5.result.items c.new-5.ensures.items
