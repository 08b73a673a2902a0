-- The clauses of a block, by what is told of it.
use Rattle.std.proofs.Common.{arith}
use Rattle.byte_fields.specs.Told.{field_fault}
use Rattle.byte_fields.proofs.Places.{all_is_found, all_is_told}
use Rattle.block_codec.proofs.BlockLaw.{block_reads}
use Rattle.block_codec.proofs.reader.read_block.Goals as goal

pub returns-clause-found : goal.returns-clause-found
returns-clause-found c = all_is_found block_reads c.args.bytes.now field_fault c.told_block.result (λ i. omega (arith, c.type_inv.bytes i)) c.told_block.ensures

pub returns-clause-only : goal.returns-clause-only
returns-clause-only c = all_is_told block_reads c.args.bytes.now field_fault c.told_block.result c.told_block.ensures
