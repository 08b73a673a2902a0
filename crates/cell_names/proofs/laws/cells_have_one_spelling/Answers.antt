-- What is spelt is read again, whatever follows, so no spelling begins another.
use Rattle.byte_fields.proofs.Joined.{one_spelling, reads_exactly}
use Rattle.cell_names.proofs.Grammar.{cell_reads}
use Rattle.cell_names.proofs.laws.cells_have_one_spelling.Goals as goal

pub returns-clause-exact : goal.returns-clause-exact
returns-clause-exact c = reads_exactly cell_reads

pub returns-clause-one : goal.returns-clause-one
returns-clause-one c = one_spelling cell_reads
