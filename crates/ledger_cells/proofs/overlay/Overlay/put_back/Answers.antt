-- The change of a cell that has a slot.
use Rattle.std.proofs.Common.{◌<◌, ◌^◌, Option, sym, ap, subst, ◌∙◌}
use Rattle.std.specs.FinSet.{contains}
use Rattle.value_core.specs.declared.val.Val.{Val}
use Rattle.cell_names.specs.Contents.{put}
use Rattle.cell_names.specs.Supply.{supply}
use Rattle.ledger_cells.specs.Overlay.{Overlaid, over, slots_of, count_at}
use Rattle.ledger_cells.proofs.Over.{changed_there, contains-slots, over-written, slots-written, slot_again}
use Rattle.ledger_cells.proofs.Counting.{recounts}
use Rattle.ledger_cells.proofs.overlay.Overlay.put_back.Goals as goal

pub rewrite-old-requires : goal.rewrite-old-requires
rewrite-old-requires c =
    sym (contains-slots c.self.inside.changes.entries c.args.c.now)
    ∙ ap (λ (o : Overlaid). contains o.slots c.args.c.now) c.self.view_is
    ∙ c.requires.slot

pub recount-self-inside-requires : goal.recount-self-inside-requires
recount-self-inside-requires c =
    let cells = over c.self.inside.held c.self.inside.changes.entries in
    recounts cells (over c.self.inside.held c.rewrite-old.new.changes.entries) c.args.c.now c.args.value c.self.inside.counts c.at-gone.result c.at-new.result
    c.self.invariant
    (over-written c.self.inside.held c.self.inside.changes.entries c.rewrite-old.new.changes.entries c.args.c.now c.args.value c.rewrite-old.ensures.written)
    (c.at-gone.ensures ∙ ap (λ (o : Option Val). count_at c.args.c.now o) (sym (changed_there c.self.inside.held c.self.inside.changes.entries c.args.c.now c.rewrite-old.result c.rewrite-old.ensures.old)))
    c.at-new.ensures
    (subst (λ (o : Overlaid). supply (put o.cells c.args.c.now c.args.value) < 2 ^ 64) (sym c.self.view_is) c.requires.within)

pub returns-clause-put : goal.returns-clause-put
returns-clause-put c =
    over-written c.self.inside.held c.self.inside.changes.entries c.rewrite-old.new.changes.entries c.args.c.now c.args.value c.rewrite-old.ensures.written
    ∙ ap (λ (o : Overlaid). put o.cells c.args.c.now c.args.value) c.self.view_is

pub returns-clause-slots : goal.returns-clause-slots
returns-clause-slots c =
    slots-written c.self.inside.changes.entries c.rewrite-old.new.changes.entries c.args.c.now c.args.value c.rewrite-old.ensures.written
    ∙ slot_again (slots_of c.self.inside.changes.entries) c.args.c.now (ap (λ (o : Overlaid). contains o.slots c.args.c.now) c.self.view_is ∙ c.requires.slot)
    ∙ ap (λ (o : Overlaid). o.slots) c.self.view_is
