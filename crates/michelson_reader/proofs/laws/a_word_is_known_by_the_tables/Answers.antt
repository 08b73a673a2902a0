-- By the tables of words, each row with its form.
use Rattle.michelson_reader.proofs.KnownWords.{known_by_tables}
use Rattle.michelson_reader.proofs.laws.a_word_is_known_by_the_tables.Goals as goal

pub returns : goal.returns
returns c = known_by_tables
