-- What is answered and left is made of what stands in the cell.
use Rattle.cell_names.proofs.Puts.{get-after_elsewhere}
use Rattle.cell_names.proofs.Exchanging.{gives_same}
use Rattle.cell_names.proofs.laws.an_access_turns_on_its_cell_alone.Goals as goal

pub returns-clause-given : goal.returns-clause-given
returns-clause-given c = gives_same

pub returns-clause-others : goal.returns-clause-others
returns-clause-others c a m q apart = get-after_elsewhere a m q apart
