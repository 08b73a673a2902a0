-- The first fault is told, and there is one at most.
use Rattle.michelson_reader.proofs.ToldFirst.{code_fault, instruction_fault, none_in_script, one_script_fault, script_fault, type_fault}
use Rattle.michelson_reader.proofs.laws.the_first_fault_of_a_script_is_told.Goals as goal

pub returns-clause-of_type : goal.returns-clause-of_type
returns-clause-of_type c = type_fault

pub returns-clause-of_instruction : goal.returns-clause-of_instruction
returns-clause-of_instruction c = instruction_fault

pub returns-clause-of_code : goal.returns-clause-of_code
returns-clause-of_code c = code_fault

pub returns-clause-told : goal.returns-clause-told
returns-clause-told c = script_fault

pub returns-clause-one : goal.returns-clause-one
returns-clause-one c = one_script_fault

pub returns-clause-none : goal.returns-clause-none
returns-clause-none c = none_in_script
