-- No text goes on past the place of a fault.
use Rattle.ligo_syntax.proofs.Verdicts.{fault_has_one_place}
use Rattle.ligo_syntax.proofs.laws.faults_have_one_place.Goals as goal

pub returns : goal.returns
returns c = λ bytes. fault_has_one_place bytes (c.bytes_are_laid_out_in_one_way.ensures.only bytes)
