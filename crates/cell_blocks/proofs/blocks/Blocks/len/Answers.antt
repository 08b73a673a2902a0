-- As many as both blocks have.
use Rattle.std.proofs.Common.{length, ap, ◌∙◌}
use Rattle.cell_blocks.proofs.Changes.{len_all}
use Rattle.cell_blocks.proofs.blocks.Blocks.len.Goals as goal

pub returns-clause-length : goal.returns-clause-length
returns-clause-length c =
    len_all c.self.inside.balances.items c.self.inside.others.items c.count_balances.result c.count_others.result c.args.self.now (c.count_balances.ensures.length ∙ ap length c.as_slice.ensures.value) (c.count_others.ensures.length ∙ ap length c.as_slice-2.ensures.value) c.self.invariant c.self.view_is
