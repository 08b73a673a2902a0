-- The clauses of reading, without a reader.
use Rattle.std.proofs.Common.{refl}
use Rattle.byte_fields.proofs.Places.{all_again, all_spelt_in}
use Rattle.plain_ledger.specs.Reading.{ledger}
use Rattle.plain_ledger.proofs.FileLaws.{ledger_reads}
use Rattle.plain_ledger.proofs.laws.ledgers_have_one_spelling.Goals as goal

pub returns-clause-read : goal.returns-clause-read
returns-clause-read c bytes s fits e = all_spelt_in ledger_reads bytes s (ledger bytes) fits refl e

pub returns-clause-again : goal.returns-clause-again
returns-clause-again c s lawful = all_again ledger_reads s lawful
