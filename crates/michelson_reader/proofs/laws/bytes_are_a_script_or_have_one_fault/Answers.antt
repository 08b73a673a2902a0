-- From the law of texts, and that of first faults.
use Rattle.michelson_reader.proofs.OneReading.{TextLaws, one_read_fault, script_has_no_fault, script_or_fault}
use Rattle.michelson_reader.proofs.laws.bytes_are_a_script_or_have_one_fault.Goals as goal

texts_in : goal.After-bytes_are_a_text_or_have_one_fault → TextLaws
texts_in c = record {
  either = c.bytes_are_a_text_or_have_one_fault.ensures.either;
  never_both = c.bytes_are_a_text_or_have_one_fault.ensures.never_both;
  one_text = c.bytes_are_a_text_or_have_one_fault.ensures.one_text;
  one_fault = c.bytes_are_a_text_or_have_one_fault.ensures.one_fault;
}

pub returns-clause-either : goal.returns-clause-either
returns-clause-either c = script_or_fault (texts_in c)

pub returns-clause-never_both : goal.returns-clause-never_both
returns-clause-never_both c = script_has_no_fault (texts_in c)

pub returns-clause-one_fault : goal.returns-clause-one_fault
returns-clause-one_fault c = one_read_fault (texts_in c)
