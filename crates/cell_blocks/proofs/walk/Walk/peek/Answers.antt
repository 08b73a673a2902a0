-- The first of what is left.
use Rattle.cell_blocks.proofs.Firsts.{first_is}
use Rattle.cell_blocks.proofs.walk.Walk.peek.Goals as goal

pub returns : goal.returns
returns c = first_is c.row_at.result _ c.args.self.now c.row_at.ensures c.self.view_is
