-- What an access leaves is put back, by its kind.
use Rattle.cell_names.proofs.Undoing.{taken_back}
use Rattle.cell_names.proofs.laws.an_undo_takes_back_its_access.Goals as goal

pub returns : goal.returns
returns c = taken_back
