-- What is spelt is read again, whatever follows, so no spelling begins another.
use Rattle.byte_fields.proofs.Joined.{one_spelling, reads_exactly}
use Rattle.value_codec.proofs.ValueLaws.{spelt_reads}
use Rattle.value_codec.proofs.laws.values_have_one_spelling.Goals as goal

pub returns-clause-exact : goal.returns-clause-exact
returns-clause-exact c = λ most. reads_exactly (spelt_reads most 128)

pub returns-clause-one : goal.returns-clause-one
returns-clause-one c = λ most. one_spelling (spelt_reads most 128)
