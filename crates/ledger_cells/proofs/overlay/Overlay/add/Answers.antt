-- One cell more.
use Rattle.std.proofs.Common.{◌<◌, ◌^◌, Option, Some, sym, ap, subst, ◌∙◌}
use Rattle.std.specs.FinMap.{get}
use Rattle.std.specs.FinSet.{contains}
use Rattle.value_core.specs.declared.val.Val.{Val}
use Rattle.cell_names.specs.Contents.{put}
use Rattle.cell_names.specs.Supply.{supply}
use Rattle.ledger_cells.specs.Overlay.{Overlaid, over, count_at}
use Rattle.ledger_cells.proofs.Over.{contains-slots}
use Rattle.ledger_cells.proofs.Counting.{recounts}
use Rattle.ledger_cells.proofs.overlay.Overlay.add.Goals as goal

pub recount-self-inside-requires : goal.recount-self-inside-requires
recount-self-inside-requires c =
    let cells = over c.self.inside.held c.self.inside.changes.entries in
    recounts cells (over c.place.new.held c.place.new.changes.entries) c.args.c (Some c.args.v) c.self.inside.counts (record { money = 0; cells = 0 }) (record { money = c.money_of.result; cells = 1 })
    c.self.invariant
    c.in_ok-place.ensures.placed
    (sym (ap (λ (o : Option Val). count_at c.args.c o) (ap (λ (o : Overlaid). get o.cells c.args.c) c.self.view_is ∙ c.requires.absent)))
    (λ i. record { money = c.money_of.ensures i; cells = 1 })
    (subst (λ (o : Overlaid). supply (put o.cells c.args.c (Some c.args.v)) < 2 ^ 64) (sym c.self.view_is) c.requires.within)

pub returns-clause-slots : goal.returns-clause-slots
returns-clause-slots c = λ q there.
    contains-slots c.place.new.changes.entries q
    ∙ c.place.ensures.slots q (sym (contains-slots c.self.inside.changes.entries q) ∙ ap (λ (o : Overlaid). contains o.slots q) c.self.view_is ∙ there)
