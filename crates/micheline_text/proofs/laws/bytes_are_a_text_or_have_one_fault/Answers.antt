-- What is read of the bytes is all that they can be.
use Rattle.micheline_text.proofs.Answered.{either, never_both, one_text, one_fault}
use Rattle.micheline_text.proofs.laws.bytes_are_a_text_or_have_one_fault.Goals as goal

pub returns-clause-either : goal.returns-clause-either
returns-clause-either c = either

pub returns-clause-never_both : goal.returns-clause-never_both
returns-clause-never_both c = never_both

pub returns-clause-one_text : goal.returns-clause-one_text
returns-clause-one_text c = one_text

pub returns-clause-one_fault : goal.returns-clause-one_fault
returns-clause-one_fault c = one_fault
