-- Blocks without cells are empty.
use Rattle.cell_blocks.proofs.Changes.{nothing_is}
use Rattle.cell_blocks.proofs.blocks.Blocks.new.Goals as goal

pub returns : goal.returns
returns c = nothing_is c.new.result.items c.new-2.result.items c.new.ensures.items c.new-2.ensures.items
