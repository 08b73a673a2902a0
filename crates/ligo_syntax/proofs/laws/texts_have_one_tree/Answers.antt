-- A text is read with its tree, and a fault excludes one.
use Rattle.ligo_syntax.proofs.Verdicts.{text_or_fault, text_has_one_tree, text_has_no_fault}
use Rattle.ligo_syntax.proofs.laws.texts_have_one_tree.Goals as goal

pub returns-clause-some : goal.returns-clause-some
returns-clause-some c = λ bytes. text_or_fault bytes (c.bytes_are_laid_out_in_one_way.ensures.laid bytes)

pub returns-clause-one : goal.returns-clause-one
returns-clause-one c = λ bytes. text_has_one_tree bytes (c.bytes_are_laid_out_in_one_way.ensures.only bytes)

pub returns-clause-other : goal.returns-clause-other
returns-clause-other c = λ bytes. text_has_no_fault bytes (c.bytes_are_laid_out_in_one_way.ensures.only bytes)
