use Rattle.block_cli.proofs.OneVerdict.{one_verdict}
use Rattle.block_cli.proofs.laws.verdict_is_one.Goals as goal

pub returns : goal.returns
returns c = one_verdict
