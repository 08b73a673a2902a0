-- Each cell stands behind those that are gathered.
use Rattle.std.proofs.Common.{◌≡◌, List, ◌∷◌, sym, ap, subst, ◌∙◌}
use Rattle.std.specs.FinMap.{insert}
use Rattle.cell_names.specs.Cells.{cell_cmp}
use Rattle.cell_names.specs.Contents.{Contents}
use Rattle.cell_blocks.specs.Blocks.{Held, IsHoldable}
use Rattle.ledger_cells.specs.Gathering.{IsGathered}
use Rattle.ledger_cells.proofs.Gathering.{gathered_none, gathered_above, gathered_holdable, gathered_one, gathered_all}
use Rattle.ledger_cells.proofs.settling.gather.Goals as goal

pub loop-row-init : goal.loop-row-init
loop-row-init c = subst (λ (m : Contents). IsGathered c.args.walk m c.args.walk) (sym c.new-held.ensures) (gathered_none c.args.walk c.requires.order c.requires.holdable)

pub push-requires-clause-above : goal.push-requires-clause-above
push-requires-clause-above c =
    let e : Held = (c.in-Some.row.0, c.in-Some.row.1) in
    let g : IsGathered c.args.walk c.loop-row.held (e ∷ c.next.new.self) = subst (λ (l : List Held). IsGathered c.args.walk c.loop-row.held l) c.in-Some.ensures c.loop-row.invariant in
    let cell : c.in_ok-cell.cell ≡ e.0 = c.in_ok-cell.ensures ∙ c.cell.ensures in
    λ q there. ap (cell_cmp q) cell ∙ gathered_above c.args.walk c.loop-row.held e c.next.new.self g q there

pub push-requires-clause-holdable : goal.push-requires-clause-holdable
push-requires-clause-holdable c =
    let e : Held = (c.in-Some.row.0, c.in-Some.row.1) in
    let g : IsGathered c.args.walk c.loop-row.held (e ∷ c.next.new.self) = subst (λ (l : List Held). IsGathered c.args.walk c.loop-row.held l) c.in-Some.ensures c.loop-row.invariant in
    let copied : Held = (c.in_ok-cell.cell, c.in_ok-value.value) in
    let same : copied ≡ e = λ i. ((c.in_ok-cell.ensures ∙ c.cell.ensures) i, (c.in_ok-value.ensures ∙ c.value.ensures) i) in
    subst (λ (x : Held). IsHoldable x.0 x.1) (sym same) (gathered_holdable c.args.walk c.loop-row.held e c.next.new.self g)

pub loop-row-preserved-in_ok-push : goal.loop-row-preserved-in_ok-push
loop-row-preserved-in_ok-push c =
    let e : Held = (c.in-Some.row.0, c.in-Some.row.1) in
    let g : IsGathered c.args.walk c.loop-row.held (e ∷ c.next.new.self) = subst (λ (l : List Held). IsGathered c.args.walk c.loop-row.held l) c.in-Some.ensures c.loop-row.invariant in
    let pushed : c.push.new.self ≡ insert c.loop-row.held e.0 e.1 = c.in_ok-push.ensures.pushed ∙ (λ i. insert c.loop-row.held ((c.in_ok-cell.ensures ∙ c.cell.ensures) i) ((c.in_ok-value.ensures ∙ c.value.ensures) i)) in
    subst (λ (m : Contents). IsGathered c.args.walk m c.next.new.self) (sym pushed) (gathered_one c.args.walk c.loop-row.held e c.next.new.self g)

pub loop-row-preserved : goal.loop-row-preserved
loop-row-preserved c =
    let e : Held = (c.in-Some.row.0, c.in-Some.row.1) in
    let g : IsGathered c.args.walk c.loop-row.held (e ∷ c.next.new.self) = subst (λ (l : List Held). IsGathered c.args.walk c.loop-row.held l) c.in-Some.ensures c.loop-row.invariant in
    let pushed : c.push.new.self ≡ insert c.loop-row.held e.0 e.1 = c.in_ok-push.ensures.pushed ∙ (λ i. insert c.loop-row.held ((c.in_ok-cell.ensures ∙ c.cell.ensures) i) ((c.in_ok-value.ensures ∙ c.value.ensures) i)) in
    subst (λ (m : Contents). IsGathered c.args.walk m c.next.new.self) (sym pushed) (gathered_one c.args.walk c.loop-row.held e c.next.new.self g)

pub returns : goal.returns
returns c = gathered_all c.args.walk c.loop-row.held c.requires.order (subst (λ (l : List Held). IsGathered c.args.walk c.loop-row.held l) c.in_default.ensures.0 c.loop-row.invariant)
