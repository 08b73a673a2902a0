-- One more change.
use Rattle.std.proofs.Common.{◌<◌, ◌^◌, Option, sym, ap, subst, ◌∙◌}
use Rattle.std.specs.FinSet.{insert}
use Rattle.value_core.specs.declared.val.Val.{Val}
use Rattle.cell_names.specs.Contents.{put}
use Rattle.cell_names.specs.Supply.{supply}
use Rattle.ledger_cells.specs.Overlay.{Overlaid, over, count_at}
use Rattle.ledger_cells.proofs.Over.{over-written, slots-written}
use Rattle.ledger_cells.proofs.Counting.{recounts}
use Rattle.ledger_cells.proofs.overlay.Overlay.put.Goals as goal

pub recount-self-inside-requires : goal.recount-self-inside-requires
recount-self-inside-requires c =
    let cells = over c.self.inside.held c.self.inside.changes.entries in
    recounts cells (over c.self.inside.held c.exchange.new.changes.entries) c.args.c.now c.args.value c.self.inside.counts c.at-gone.result c.at-new.result
    c.self.invariant
    (over-written c.self.inside.held c.self.inside.changes.entries c.exchange.new.changes.entries c.args.c.now c.args.value c.in_ok-old.ensures.written)
    (c.at-gone.ensures ∙ ap (λ (o : Option Val). count_at c.args.c.now o) c.in_ok-old.ensures.old)
    c.at-new.ensures
    (subst (λ (o : Overlaid). supply (put o.cells c.args.c.now c.args.value) < 2 ^ 64) (sym c.self.view_is) c.requires)

pub returns-clause-put : goal.returns-clause-put
returns-clause-put c =
    over-written c.self.inside.held c.self.inside.changes.entries c.exchange.new.changes.entries c.args.c.now c.args.value c.in_ok-old.ensures.written
    ∙ ap (λ (o : Overlaid). put o.cells c.args.c.now c.args.value) c.self.view_is

pub returns-clause-slot : goal.returns-clause-slot
returns-clause-slot c =
    slots-written c.self.inside.changes.entries c.exchange.new.changes.entries c.args.c.now c.args.value c.in_ok-old.ensures.written
    ∙ ap (λ (o : Overlaid). insert o.slots c.args.c.now) c.self.view_is
