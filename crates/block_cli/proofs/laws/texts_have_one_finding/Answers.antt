-- From the laws of reading and of typing.
use Rattle.block_cli.proofs.Findings.{ReadingLaws, TypingLaws, a_finding, one_finding}
use Rattle.block_cli.proofs.laws.texts_have_one_finding.Goals as goal

reading_in : goal.After-a_script_has_one_fault → ReadingLaws
reading_in c = record {
  either = c.bytes_are_a_script_or_have_one_fault.ensures.either;
  never_both = c.bytes_are_a_script_or_have_one_fault.ensures.never_both;
  one_script = c.a_text_spells_one_script.ensures;
  one_fault = c.bytes_are_a_script_or_have_one_fault.ensures.one_fault;
}

typing_in : goal.After-a_script_has_one_fault → TypingLaws
typing_in c = record {
  either = c.a_script_is_typed_or_has_a_fault.ensures;
  never_both = c.a_typed_script_has_no_fault.ensures;
  one_fault = c.a_script_has_one_fault.ensures;
}

pub returns-clause-there : goal.returns-clause-there
returns-clause-there c = a_finding (reading_in c) (typing_in c)

pub returns-clause-one : goal.returns-clause-one
returns-clause-one c = one_finding (reading_in c) (typing_in c)
