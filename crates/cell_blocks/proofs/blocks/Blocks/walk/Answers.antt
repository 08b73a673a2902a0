-- All cells of both blocks are the entries.
use Rattle.std.proofs.Common.{sym, ap, ◌∙◌}
use Rattle.std.specs.FinMap.{entries}
use Rattle.cell_names.specs.Contents.{Contents}
use Rattle.cell_blocks.proofs.Changes.{blocks_are, contents_are, entries_all}
use Rattle.cell_blocks.proofs.blocks.Blocks.walk.Goals as goal

pub returns : goal.returns
returns c =
    let s = c.deref in
    let t = c.deref-2 in
    c.new.ensures ∙ sym (entries_all s.result.now t.result.now (blocks_are _ _ _ _ s.ensures.value t.ensures.value c.self.invariant))
    ∙ ap (λ (m : Contents). entries m) (contents_are _ _ _ _ _ s.ensures.value t.ensures.value c.self.view_is)
