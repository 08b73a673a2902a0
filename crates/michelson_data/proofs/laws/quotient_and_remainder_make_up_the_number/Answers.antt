-- By the signs of the two.
use Rattle.michelson_data.proofs.Remainders.{amounts, one_of_amounts, one_pair, small_remainder, whole_number}
use Rattle.michelson_data.proofs.laws.quotient_and_remainder_make_up_the_number.Goals as goal

pub returns-clause-number : goal.returns-clause-number
returns-clause-number c = whole_number

pub returns-clause-remainder : goal.returns-clause-remainder
returns-clause-remainder c = small_remainder

pub returns-clause-one : goal.returns-clause-one
returns-clause-one c = one_pair

pub returns-clause-amounts : goal.returns-clause-amounts
returns-clause-amounts c = amounts

pub returns-clause-one_of_amounts : goal.returns-clause-one_of_amounts
returns-clause-one_of_amounts c = one_of_amounts
