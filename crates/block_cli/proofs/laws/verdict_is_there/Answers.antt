use Rattle.block_cli.proofs.EveryVerdict.{verdict_there}
use Rattle.block_cli.proofs.laws.verdict_is_there.Goals as goal

pub returns : goal.returns
returns c = verdict_there c.blocks_have_one_spelling.ensures.read
