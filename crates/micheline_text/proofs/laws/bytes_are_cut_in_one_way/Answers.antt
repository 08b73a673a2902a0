-- Bytes are read as what they are cut into, and cut into what is read.
use Rattle.micheline_text.proofs.CutRead.{cut_is_read}
use Rattle.micheline_text.proofs.LaidFound.{tokens_are_cut}
use Rattle.micheline_text.proofs.laws.bytes_are_cut_in_one_way.Goals as goal

pub returns-clause-cut : goal.returns-clause-cut
returns-clause-cut c = tokens_are_cut

pub returns-clause-only : goal.returns-clause-only
returns-clause-only c = λ bytes ts is. cut_is_read ts 0 bytes is
