use Rattle.std.proofs.Common.{refl}
use Rattle.ligo_syntax.specs.Verdict.{most_deep}
use Rattle.ligo_syntax.proofs.program_reader.most_deep.Goals as goal

pub returns : goal.returns
unfolding most_deep
returns c = refl
