-- A balance that is changed is kept, and a write changes no balance.
use Rattle.cell_names.proofs.Undoing.{tidy_after, tidy_undone}
use Rattle.cell_names.proofs.laws.accesses_keep_cells_tidy.Goals as goal

pub returns-clause-accesses : goal.returns-clause-accesses
returns-clause-accesses c = tidy_after

pub returns-clause-undos : goal.returns-clause-undos
returns-clause-undos c = tidy_undone
