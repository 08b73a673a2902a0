-- The clauses of reading, without a reader.
use Rattle.std.proofs.Common.{refl}
use Rattle.byte_fields.proofs.Joined.{one_spelling}
use Rattle.byte_fields.proofs.Places.{all_again, all_spelt_in}
use Rattle.block_codec.specs.Reading.{block}
use Rattle.block_codec.proofs.BlockLaw.{block_reads, fields_reads}
use Rattle.block_codec.proofs.laws.blocks_have_one_spelling.Goals as goal

pub returns-clause-read : goal.returns-clause-read
returns-clause-read c bytes b fits e = all_spelt_in block_reads bytes b (block bytes) fits refl e

pub returns-clause-again : goal.returns-clause-again
returns-clause-again c b lawful = all_again block_reads b lawful

pub returns-clause-one : goal.returns-clause-one
returns-clause-one c = one_spelling fields_reads
