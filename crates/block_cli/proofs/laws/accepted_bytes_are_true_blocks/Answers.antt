use Rattle.block_cli.proofs.TrueBlocks.{accepted_are_true}
use Rattle.block_cli.proofs.laws.accepted_bytes_are_true_blocks.Goals as goal

pub returns : goal.returns
returns c = accepted_are_true c.blocks_have_one_spelling.ensures.read c.blocks_have_one_spelling.ensures.again
