use Rattle.block_cli.proofs.AllOrNothing.{all_or_nothing}
use Rattle.block_cli.proofs.laws.answers_write_all_or_nothing.Goals as goal

pub returns : goal.returns
returns c = all_or_nothing
