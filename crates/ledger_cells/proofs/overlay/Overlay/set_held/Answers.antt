-- A balance above 0 without a slot is held.
use Rattle.std.proofs.Common.{◌≡◌, ◌≢◌, ◌<◌, ◌^◌, Option, refl, sym, ap, subst, ◌∙◌}
use Rattle.std.specs.Prelude.{is_some}
use Rattle.std.specs.FinMap.{get}
use Rattle.std.specs.FinSet.{contains}
use Rattle.value_core.specs.declared.val.Val.{Val}
use Rattle.cell_names.specs.declared.cell.Cell.TheVariants.{Balance}
use Rattle.cell_names.specs.Contents.{Contents, amount_kept, balance, with_balance}
use Rattle.cell_names.specs.Supply.{supply}
use Rattle.ledger_cells.specs.Overlay.{Overlaid, over, count_at}
use Rattle.ledger_cells.proofs.Over.{held_there, no_slot, over-held_balance}
use Rattle.ledger_cells.proofs.Counting.{balance_counted, put_kept, recounts, some_balance}
use Rattle.ledger_cells.proofs.overlay.Overlay.set_held.Goals as goal

pub set_balance-requires : goal.set_balance-requires
set_balance-requires c =
    let none = no_slot c.self.inside.changes.entries (Balance c.args.address.now) (ap (λ (o : Overlaid). contains o.slots (Balance c.args.address.now)) c.self.view_is ∙ c.requires.slot) in
    let same = held_there c.self.inside.held c.self.inside.changes.entries (Balance c.args.address.now) none in
    ap is_some (sym same)
    ∙ some_balance (get (over c.self.inside.held c.self.inside.changes.entries) (Balance c.args.address.now)) (subst (λ (o : Overlaid). balance o.cells c.args.address.now ≢ 0) (sym c.self.view_is) c.requires.some)

pub recount-self-inside-requires : goal.recount-self-inside-requires
recount-self-inside-requires c =
    let cells = over c.self.inside.held c.self.inside.changes.entries in
    let a = c.args.address.now in
    let n = c.args.amount in
    let none = no_slot c.self.inside.changes.entries (Balance a) (ap (λ (o : Overlaid). contains o.slots (Balance a)) c.self.view_is ∙ c.requires.slot) in
    let some : balance cells a ≢ 0 = subst (λ (o : Overlaid). balance o.cells a ≢ 0) (sym c.self.view_is) c.requires.some in
    let has : c.kept.result ≡ amount_kept (balance cells a) = c.kept.ensures ∙ ap amount_kept (c.balance.ensures ∙ ap (λ (o : Overlaid). balance o.cells a) (sym c.self.view_is)) in
    recounts cells (over c.set_balance.new.self c.self.inside.changes.entries) (Balance a) (amount_kept n) c.self.inside.counts c.at-gone.result c.at-new.result
    c.self.invariant
    (ap (λ (m : Contents). over m c.self.inside.changes.entries) c.set_balance.ensures ∙ over-held_balance c.self.inside.held c.self.inside.changes.entries a n none ∙ sym (put_kept cells a n (amount_kept n) refl))
    (c.at-gone.ensures ∙ ap (λ (o : Option Val). count_at (Balance a) o) has ∙ balance_counted a (get cells (Balance a)) some)
    (c.at-new.ensures ∙ ap (λ (o : Option Val). count_at (Balance a) o) c.kept-2.ensures)
    (subst (λ (m : Contents). supply m < 2 ^ 64) (sym (put_kept cells a n (amount_kept n) refl)) (subst (λ (o : Overlaid). supply (with_balance o.cells a n) < 2 ^ 64) (sym c.self.view_is) c.requires.within))

pub returns-clause-set : goal.returns-clause-set
returns-clause-set c =
    let a = c.args.address.now in
    let none = no_slot c.self.inside.changes.entries (Balance a) (ap (λ (o : Overlaid). contains o.slots (Balance a)) c.self.view_is ∙ c.requires.slot) in
    ap (λ (m : Contents). over m c.self.inside.changes.entries) c.set_balance.ensures
    ∙ over-held_balance c.self.inside.held c.self.inside.changes.entries a c.args.amount none
    ∙ ap (λ (o : Overlaid). with_balance o.cells a c.args.amount) c.self.view_is
