-- The first fault is told, and there is one at most.
use Rattle.data_nodes.proofs.FirstFaults.{first_is_told, none_in_data, one_data_fault, one_first, told_is_first}
use Rattle.data_nodes.proofs.laws.the_first_fault_is_told.Goals as goal

pub returns-clause-told : goal.returns-clause-told
returns-clause-told c = λ t n f. (first_is_told t n f, told_is_first t n f)

pub returns-clause-one : goal.returns-clause-one
returns-clause-one c = one_first

pub returns-clause-one_of_data : goal.returns-clause-one_of_data
returns-clause-one_of_data c = one_data_fault

pub returns-clause-none : goal.returns-clause-none
returns-clause-none c = none_in_data
