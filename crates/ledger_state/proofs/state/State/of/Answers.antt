-- A book for which cells were made is theirs, where each contract has its storage.
use Rattle.ledger_state.proofs.States.{made_for_owner}
use Rattle.ledger_state.proofs.state.State.of.Goals as goal

pub unite-requires-clause-owned : goal.unite-requires-clause-owned
unite-requires-clause-owned c = made_for_owner c.args.book c.args.cells c.requires.made_for c.requires.housed c.len-count.ensures.lawful
