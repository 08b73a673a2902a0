-- What stands where the cells above the given one begin is the least of them.
use Rattle.std.specs.Option.{option_copied}
use Rattle.cell_blocks.proofs.Changes.{blocks_are, contents_are, next_is}
use Rattle.cell_blocks.proofs.blocks.Blocks.next_above.Goals as goal

pub returns : goal.returns
returns c =
    let s = c.as_slice-balances in
    let t = c.as_slice-others in
    next_is s.result.now t.result.now (option_copied c.args.c) c.place_above.result c.row_at.result c.args.self.now c.row_at.ensures
    (blocks_are _ _ _ _ s.ensures.value t.ensures.value c.self.invariant)
    (contents_are _ _ _ _ _ s.ensures.value t.ensures.value c.self.view_is) c.place_above.ensures
