use Rattle.chain_text.proofs.NumberLemmas.{are_decimals, one_spelling}
use Rattle.chain_text.proofs.laws.numbers_have_one_spelling.Goals as goal

pub returns-clause-one : goal.returns-clause-one
returns-clause-one c = one_spelling

pub returns-clause-decimal : goal.returns-clause-decimal
returns-clause-decimal c = are_decimals
