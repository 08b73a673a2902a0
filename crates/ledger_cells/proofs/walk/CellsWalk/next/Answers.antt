-- The next cell is held, or changed; or what is left is held.
use Rattle.std.proofs.Common.{◌∷◌, sym, ap, ◌∙◌}
use Rattle.cell_blocks.specs.Blocks.{Held}
use Rattle.ledger_cells.specs.Walking.{cells_left, changes_left}
use Rattle.ledger_cells.proofs.Walking.{next_held, next_change, next_gone, next_order, next_last}
use Rattle.ledger_cells.proofs.walk.CellsWalk.next.Goals as goal

pub returns-in-Some-before : goal.returns-in-Some-before
returns-in-Some-before c =
    next_held c.args.self.now c.loop-self.self-inside.change c.loop-self.self-inside.changes c.loop-self.self-inside.held c.before-in-Some.new.held
    c.loop-self.invariant.order c.loop-self.invariant.left c.in-Some.cell c.in-Some.value c.in-Some-before.row c.in-Some.is c.in-Some-before.ensures.next

pub returns-in-Some-value : goal.returns-in-Some-value
returns-in-Some-value c =
    next_change c.args.self.now c.loop-self.self-inside.change c.loop-self.self-inside.changes c.loop-self.self-inside.held c.before-in-Some.new.held
    c.loop-self.invariant.order c.loop-self.invariant.left c.in-Some.cell c.in-Some.value c.in-Some.is
    c.before-in-Some.result c.before-in-Some.ensures.next c.in_default-before.is c.before-in-Some.ensures.sorted
    c.next-self-inside.result c.next-self-inside.new.self c.next-self-inside.ensures.steps c.in-Some-value.value c.in-Some-value.is
    ∙ ap (λ (x : Held). x ∷ cells_left c.before-in-Some.new.held (changes_left c.next-self-inside.result c.next-self-inside.new.self)) (sym c.lent.ensures)

pub loop-self-preserved : goal.loop-self-preserved
loop-self-preserved c = record {
  order =
      next_order c.args.self.now c.loop-self.self-inside.change c.loop-self.self-inside.changes c.loop-self.self-inside.held c.before-in-Some.new.held
      c.loop-self.invariant.order c.loop-self.invariant.left c.in-Some.cell c.in-Some.value c.in-Some.is
      c.before-in-Some.result c.before-in-Some.ensures.next c.in_default-before.is c.before-in-Some.ensures.sorted
      c.next-self-inside.result c.next-self-inside.new.self c.next-self-inside.ensures.steps;
  left =
      next_gone c.args.self.now c.loop-self.self-inside.change c.loop-self.self-inside.changes c.loop-self.self-inside.held c.before-in-Some.new.held
      c.loop-self.invariant.order c.loop-self.invariant.left c.in-Some.cell c.in-Some.value c.in-Some.is
      c.before-in-Some.result c.before-in-Some.ensures.next c.in_default-before.is c.before-in-Some.ensures.sorted
      c.next-self-inside.result c.next-self-inside.new.self c.next-self-inside.ensures.steps c.in_default-value.is;
}

pub returns : goal.returns
returns c =
    next_last c.args.self.now c.loop-self.self-inside.change c.loop-self.self-inside.changes c.loop-self.self-inside.held c.next.new.self
    c.loop-self.invariant.order c.loop-self.invariant.left c.next.result c.in_default.is c.next.ensures
