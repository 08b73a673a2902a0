-- What is free conflicts with no other ticket, and the others stay as they are.
use Rattle.abstract_locks.proofs.TableLemmas.{still_apart}
use Rattle.abstract_locks.proofs.laws.grants_keep_tickets_apart.Goals as goal

pub returns : goal.returns
returns c = still_apart
