-- An equal book and equal cells are a state's, and the same one.
use Rattle.ledger_state.proofs.States.{copied, copied_view}
use Rattle.ledger_state.proofs.state.State.copy.Goals as goal

pub invariant_of-result : goal.invariant_of-result
invariant_of-result c =
    copied c.self.inside.head.level c.self.inside.head.now c.self.inside.book c.in_ok-book.book c.self.inside.cells c.in_ok-cells.cells c.in_ok-book.ensures c.in_ok-cells.ensures c.self.invariant

pub returns : goal.returns
returns c =
    copied_view c.self.inside.head.level c.self.inside.head.now c.self.inside.book c.in_ok-book.book c.self.inside.cells c.in_ok-cells.cells c.args.self.now c.in_ok-book.ensures c.in_ok-cells.ensures c.self.view_is
