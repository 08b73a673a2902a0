use Rattle.block_cli.proofs.EveryVerdict.{answer_there}
use Rattle.block_cli.proofs.laws.contents_have_an_answer.Goals as goal

pub returns : goal.returns
returns c = answer_there c.blocks_have_one_spelling.ensures.read c.texts_have_one_finding.ensures.there
