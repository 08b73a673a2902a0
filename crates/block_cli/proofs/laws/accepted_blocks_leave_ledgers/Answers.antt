use Rattle.block_cli.proofs.TrueBlocks.{accepted_leave}
use Rattle.block_cli.proofs.laws.accepted_blocks_leave_ledgers.Goals as goal

pub returns : goal.returns
returns c = accepted_leave c.blocks_have_one_spelling.ensures.read c.ledgers_have_one_spelling.ensures.again c.supply_is_kept.ensures.supply c.supply_is_kept.ensures.lawful
