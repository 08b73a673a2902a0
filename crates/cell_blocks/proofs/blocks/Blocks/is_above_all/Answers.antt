-- What is above the last cell is above all.
use Rattle.std.proofs.Common.{None, refl}
use Rattle.cell_blocks.proofs.Changes.{above_answer, blocks_are, contents_are, last_is}
use Rattle.cell_blocks.proofs.blocks.Blocks.is_above_all.Goals as goal

pub returns-in-Some : goal.returns-in-Some
returns-in-Some c =
    let s = c.deref in
    let t = c.deref-2 in
    above_answer s.result.now t.result.now c.args.c.now c.in-Some.row c.args.self.now c.cell.result.now c.order.result c.is_lt.result c.in-Some.ensures
    (blocks_are _ _ _ _ s.ensures.value t.ensures.value c.self.invariant)
    (contents_are _ _ _ _ _ s.ensures.value t.ensures.value c.self.view_is) c.cell.ensures c.order.ensures c.is_lt.ensures

pub returns-in-None : goal.returns-in-None
returns-in-None c =
    let s = c.deref in
    let t = c.deref-2 in
    let all_below = last_is s.result.now t.result.now c.args.c.now None c.args.self.now c.in-None.ensures
    (blocks_are _ _ _ _ s.ensures.value t.ensures.value c.self.invariant)
    (contents_are _ _ _ _ _ s.ensures.value t.ensures.value c.self.view_is) in
    (λ _. all_below, λ _. refl)
