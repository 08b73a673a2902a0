-- One more cell at the end of the second block.
use Rattle.cell_blocks.proofs.Changes.{push_other}
use Rattle.cell_blocks.proofs.blocks.Blocks.push_other.Goals as goal

pub invariant_of-self-2 : goal.invariant_of-self-2
invariant_of-self-2 c =
    (push_other c.self.inside.balances.items c.self.inside.others.items c.push.new.self.items c.args.c c.args.v c.args.self.now c.self.invariant c.self.view_is c.requires.above c.requires.other c.in_ok-push.ensures.items).are

pub returns-clause-pushed : goal.returns-clause-pushed
returns-clause-pushed c =
    (push_other c.self.inside.balances.items c.self.inside.others.items c.push.new.self.items c.args.c c.args.v c.args.self.now c.self.invariant c.self.view_is c.requires.above c.requires.other c.in_ok-push.ensures.items).is
