-- What was read can be written.
use Rattle.block_codec.proofs.Written.{within_format}
use Rattle.block_codec.proofs.tests.read_and_written.Goals as goal

pub write_block-requires : goal.write_block-requires
write_block-requires c = within_format c.in_ok-block.block c.in_ok-block.ensures.found.0
