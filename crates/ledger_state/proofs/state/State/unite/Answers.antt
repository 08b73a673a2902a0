-- What a book and its own cells keep.
use Rattle.std.proofs.Common.{arith}
use Rattle.ledger_state.proofs.States.{is_state}
use Rattle.ledger_state.proofs.state.State.unite.Goals as goal

pub invariant_of-result : goal.invariant_of-result
invariant_of-result c =
    is_state c.args.head.level c.args.head.now c.args.book c.args.cells (omega arith) (omega arith) c.requires.flight c.len-contracts.ensures.book c.requires.owned
