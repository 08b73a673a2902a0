-- Another amount at the balance's place, or the place goes.
use Rattle.std.proofs.Common.{List, ap, refl, sym, subst, ◌∙◌}
use Rattle.value_core.specs.Places.{IsGap, IsPlace}
use Rattle.cell_names.specs.declared.cell.Cell.TheVariants.{Balance}
use Rattle.cell_names.specs.Cells.{cell_cmp}
use Rattle.cell_names.specs.Contents.{with_balance}
use Rattle.cell_blocks.specs.declared.holding.Holding.{Holding}
use Rattle.cell_blocks.specs.Blocks.{held_by}
use Rattle.cell_blocks.proofs.Changes.{balances_up, not_missing, set_amount, take_away}
use Rattle.cell_blocks.proofs.blocks.Blocks.set_balance.Goals as goal

pub place_of_balance-requires : goal.place_of_balance-requires
place_of_balance-requires c = balances_up c.deref.result.now c.self.inside.balances.items c.self.inside.others.items c.deref.ensures.value c.self.invariant

pub invariant_of-self : goal.invariant_of-self
invariant_of-self c =
    let here = subst (λ (l : List Holding). IsPlace (λ (h : Holding). (held_by h).0) l (Balance c.args.address.now) c.in-Ok.i) c.deref.ensures.value c.in-Ok.ensures in
    (take_away c.self.inside.balances.items c.remove.new.self.items c.self.inside.others.items c.args.address.now c.in-Ok.i c.args.self.now c.self.invariant c.self.view_is here c.remove.ensures.items).are

pub returns-then-amount-eq-NOTHING : goal.returns-then-amount-eq-NOTHING
returns-then-amount-eq-NOTHING c =
    let here = subst (λ (l : List Holding). IsPlace (λ (h : Holding). (held_by h).0) l (Balance c.args.address.now) c.in-Ok.i) c.deref.ensures.value c.in-Ok.ensures in
    (take_away c.self.inside.balances.items c.remove.new.self.items c.self.inside.others.items c.args.address.now c.in-Ok.i c.args.self.now c.self.invariant c.self.view_is here c.remove.ensures.items).is
    ∙ ap (with_balance c.args.self.now c.args.address.now) (sym c.if-amount-eq-NOTHING.true)

pub invariant_of-self-else-amount-eq-NOTHING : goal.invariant_of-self-else-amount-eq-NOTHING
invariant_of-self-else-amount-eq-NOTHING c =
    let here = subst (λ (l : List Holding). IsPlace (λ (h : Holding). (held_by h).0) l (Balance c.args.address.now) c.in-Ok.i) c.deref.ensures.value c.in-Ok.ensures in
    (set_amount c.self.inside.balances.items _ c.self.inside.others.items c.args.address.now c.in-Ok.i c.args.amount c.index_mut.result.now c.args.self.now c.self.invariant c.self.view_is here c.if-amount-eq-NOTHING.false c.index_mut.ensures.value refl).are

pub returns-else-amount-eq-NOTHING : goal.returns-else-amount-eq-NOTHING
returns-else-amount-eq-NOTHING c =
    let here = subst (λ (l : List Holding). IsPlace (λ (h : Holding). (held_by h).0) l (Balance c.args.address.now) c.in-Ok.i) c.deref.ensures.value c.in-Ok.ensures in
    (set_amount c.self.inside.balances.items _ c.self.inside.others.items c.args.address.now c.in-Ok.i c.args.amount c.index_mut.result.now c.args.self.now c.self.invariant c.self.view_is here c.if-amount-eq-NOTHING.false c.index_mut.ensures.value refl).is

pub returns-in_default : goal.returns-in_default
returns-in_default c =
    let gap = subst (λ (l : List Holding). IsGap (λ (h : Holding). (held_by h).0) cell_cmp l (Balance c.args.address.now) c.in_default.field-0) c.deref.ensures.value c.in_default.ensures in
    absurd (not_missing c.self.inside.balances.items c.self.inside.others.items c.args.address.now c.in_default.field-0 c.args.self.now c.self.invariant c.self.view_is gap c.requires)
