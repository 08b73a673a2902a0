-- What leaves a balance is in flight, and what leaves the flight is in a balance.
use Rattle.cell_names.proofs.Money.{kept_after, kept_undone}
use Rattle.cell_names.proofs.laws.accesses_keep_the_supply.Goals as goal

pub returns-clause-accesses : goal.returns-clause-accesses
returns-clause-accesses c = kept_after

pub returns-clause-undos : goal.returns-clause-undos
returns-clause-undos c = kept_undone
