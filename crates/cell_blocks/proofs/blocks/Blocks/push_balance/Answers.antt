-- One more balance at the end of both blocks, of which the second has no cell.
use Rattle.std.proofs.Common.{refl}
use Rattle.cell_blocks.proofs.Changes.{push_balance}
use Rattle.cell_blocks.proofs.blocks.Blocks.push_balance.Goals as goal

pub invariant_of-self-2 : goal.invariant_of-self-2
invariant_of-self-2 c =
    (push_balance c.self.inside.balances.items c.push.new.self.items c.self.inside.others.items c.args.holding _ _ c.args.self.now c.self.invariant c.self.view_is c.requires refl refl c.in_ok-push.ensures.items).are

pub returns-clause-pushed : goal.returns-clause-pushed
returns-clause-pushed c =
    (push_balance c.self.inside.balances.items c.push.new.self.items c.self.inside.others.items c.args.holding _ _ c.args.self.now c.self.invariant c.self.view_is c.requires refl refl c.in_ok-push.ensures.items).is
