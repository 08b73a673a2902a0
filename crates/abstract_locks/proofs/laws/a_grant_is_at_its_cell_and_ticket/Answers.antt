-- The cell and the ticket are told apart from all others.
use Rattle.abstract_locks.proofs.TableLemmas.{is_grant}
use Rattle.abstract_locks.proofs.laws.a_grant_is_at_its_cell_and_ticket.Goals as goal

pub returns : goal.returns
returns c = is_grant
