-- Each turn of the search.
use Rattle.std.proofs.Common.{List, ◌∷◌, Option, Some, sym, ap, subst, ◌∙◌}
use Rattle.std.specs.Option.{option_copied}
use Rattle.std.specs.declared.ops.Bound.{Bound}
use Rattle.std.specs.declared.ops.Bound.TheVariants.{Unbounded}
use Rattle.std.specs.BTreeMap.Range.{entries_between}
use Rattle.value_core.specs.declared.val.Val.{Val}
use Rattle.value_core.proofs.Bools.{true_of}
use Rattle.cell_names.specs.declared.cell.Cell.{Cell}
use Rattle.cell_names.specs.Cells.{cell_cmp}
use Rattle.cell_blocks.specs.Blocks.{Held}
use Rattle.cell_blocks.specs.Successors.{IsNext}
use Rattle.ledger_cells.specs.Overlay.{Change, over}
use Rattle.ledger_cells.specs.Seeking.{IsSought}
use Rattle.ledger_cells.proofs.Copying.{sorted_from_keys}
use Rattle.ledger_cells.proofs.Searches.{least_is, row_found, row_last, sought_begun, sought_further, none_between, change_is_next}
use Rattle.ledger_cells.proofs.seeking.least_above.Goals as goal

pub loop-cell-init : goal.loop-cell-init
loop-cell-init c =
    let from = option_copied c.args.c in
    let is =
    c.into_iter-cell-iterator.ensures.into_iter_gives ∙ c.range-cell-items.ensures.between tt
    ∙ ap (λ (b : Bound Cell). entries_between cell_cmp b Unbounded c.args.changes.now.entries) c.above.ensures in (
      from,
      (
        sought_begun c.args.held.now c.args.changes.now.entries c.into_iter-cell-iterator.result from (true_of _ (sorted_from_keys c.args.changes.now.entries c.range-cell-items.ensures.ordered)) is,
        least_is c.args.held.now from c.next_above-row.result c.next_above-row.ensures,
      ),
    )

pub returns-then-is_below : goal.returns-then-is_below
returns-then-is_below c =
    let inv = c.loop-cell.invariant in
    row_found c.args.held.now c.args.changes.now.entries (option_copied c.args.c) inv.0 c.in-Some.cell.now c.in-Some.value.now c.next.new.self c.loop-cell.row
    (subst (λ (l : List Change). IsSought c.args.held.now c.args.changes.now.entries (option_copied c.args.c) inv.0 l) c.in-Some.ensures.steps inv.1.0)
    inv.1.1 (sym c.is_below.ensures ∙ c.if-is_below.true)

pub returns-in-Some-value : goal.returns-in-Some-value
returns-in-Some-value c =
    let inv = c.loop-cell.invariant in
    let sought = subst (λ (l : List Change). IsSought c.args.held.now c.args.changes.now.entries (option_copied c.args.c) inv.0 l) c.in-Some.ensures.steps inv.1.0 in
    let there = subst (λ (o : Option Val). IsSought c.args.held.now c.args.changes.now.entries (option_copied c.args.c) inv.0 ((c.in-Some.cell.now, o) ∷ c.next.new.self)) c.in-Some-value.is sought in
    subst (λ (x : Held). IsNext cell_cmp (over c.args.held.now c.args.changes.now.entries) (option_copied c.args.c) x.0 x.1) (sym c.lent.ensures)
    (change_is_next c.args.held.now c.args.changes.now.entries (option_copied c.args.c) inv.0 c.in-Some.cell.now c.in-Some-value.value c.next.new.self there
    (none_between c.args.held.now inv.0 c.in-Some.cell.now c.loop-cell.row inv.1.1 (sym c.is_below.ensures ∙ c.if-is_below.false)))

pub loop-cell-preserved : goal.loop-cell-preserved
loop-cell-preserved c =
    let inv = c.loop-cell.invariant in
    let sought = subst (λ (l : List Change). IsSought c.args.held.now c.args.changes.now.entries (option_copied c.args.c) inv.0 l) c.in-Some.ensures.steps inv.1.0 in
    let gone = subst (λ (o : Option Val). IsSought c.args.held.now c.args.changes.now.entries (option_copied c.args.c) inv.0 ((c.in-Some.cell.now, o) ∷ c.next.new.self)) c.in_default.is sought in (
      Some c.in-Some.cell.now,
      (
        sought_further c.args.held.now c.args.changes.now.entries (option_copied c.args.c) inv.0 c.in-Some.cell.now c.next.new.self gone
            (none_between c.args.held.now inv.0 c.in-Some.cell.now c.loop-cell.row inv.1.1 (sym c.is_below.ensures ∙ c.if-is_below.false)),
        least_is c.args.held.now (Some c.in-Some.cell.now) c.next_above-row-in-loop-cell.result c.next_above-row-in-loop-cell.ensures,
      ),
    )

pub returns : goal.returns
returns c =
    let inv = c.loop-cell.invariant in
    row_last c.args.held.now c.args.changes.now.entries (option_copied c.args.c) inv.0 c.loop-cell.row
    (subst (λ (l : List Change). IsSought c.args.held.now c.args.changes.now.entries (option_copied c.args.c) inv.0 l) c.in-None.ensures.steps.0 inv.1.0)
    inv.1.1
