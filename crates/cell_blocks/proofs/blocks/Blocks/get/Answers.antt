-- The value at the place of the cell, or none at its gap.
use Rattle.cell_blocks.proofs.Changes.{blocks_are, contents_are, found_at, found_none}
use Rattle.cell_blocks.proofs.blocks.Blocks.get.Goals as goal

pub returns-in-Ok : goal.returns-in-Ok
returns-in-Ok c =
    let s = c.as_slice-balances in
    let t = c.as_slice-others in
    found_at s.result.now t.result.now c.args.c.now c.in-Ok.i c.value_at.result c.args.self.now c.value_at.ensures
    (blocks_are _ _ _ _ s.ensures.value t.ensures.value c.self.invariant)
    (contents_are _ _ _ _ _ s.ensures.value t.ensures.value c.self.view_is) c.in-Ok.ensures

pub returns-in-Err : goal.returns-in-Err
returns-in-Err c =
    let s = c.as_slice-balances in
    let t = c.as_slice-others in
    found_none s.result.now t.result.now c.args.c.now c.in-Err.field-0 c.args.self.now
    (blocks_are _ _ _ _ s.ensures.value t.ensures.value c.self.invariant)
    (contents_are _ _ _ _ _ s.ensures.value t.ensures.value c.self.view_is) c.in-Err.ensures
