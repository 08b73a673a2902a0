-- The same contents have the same balances and the same other cells.
use Rattle.std.proofs.Common.{sym, ◌∙◌}
use Rattle.cell_blocks.proofs.Changes.{blocks_are, contents_are, same_blocks, other_balances}
use Rattle.cell_blocks.proofs.blocks.Blocks.same.Goals as goal

pub returns-then-same_balances : goal.returns-then-same_balances
returns-then-same_balances c =
    let s = c.deref in
    let t = c.deref-2 in
    let u = c.deref-then-same_balances in
    let v = c.deref-then-same_balances-2 in
    same_blocks s.result.now t.result.now u.result.now v.result.now c.args.self.now c.args.other.now c.same_others.result
    (blocks_are _ _ _ _ s.ensures.value u.ensures.value c.self.invariant)
    (blocks_are _ _ _ _ t.ensures.value v.ensures.value c.other.invariant)
    (contents_are _ _ _ _ _ s.ensures.value u.ensures.value c.self.view_is)
    (contents_are _ _ _ _ _ t.ensures.value v.ensures.value c.other.view_is)
    (c.same_balances.ensures.0 c.if-same_balances.true) c.same_others.ensures

pub returns-else-same_balances : goal.returns-else-same_balances
returns-else-same_balances c =
    let s = c.deref in
    let t = c.deref-2 in (
      λ h. absurd cc,
      λ e. c.same_balances.ensures.1
          (s.ensures.value
          ∙ other_balances c.self.inside.balances.items c.other.inside.balances.items c.self.inside.others.items c.other.inside.others.items c.args.self.now c.args.other.now c.self.invariant c.other.invariant c.self.view_is c.other.view_is e
          ∙ sym t.ensures.value),
    )
