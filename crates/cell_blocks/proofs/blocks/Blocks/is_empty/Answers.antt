-- There is no cell where there are 0.
use Rattle.cell_blocks.proofs.Changes.{empty_tells}
use Rattle.cell_blocks.proofs.blocks.Blocks.is_empty.Goals as goal

pub returns : goal.returns
returns c = empty_tells c.len.result c.args.self.now c.len.ensures.length
