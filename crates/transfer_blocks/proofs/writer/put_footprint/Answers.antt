-- A footprint that has a spelling can be written.
use Rattle.cell_names.proofs.Writable.{footprint_can_be_spelt}
use Rattle.transfer_blocks.proofs.writer.put_footprint.Goals as goal

pub write_footprint-requires-clause-cells : goal.write_footprint-requires-clause-cells
write_footprint-requires-clause-cells c = footprint_can_be_spelt c.args.footprint.now c.requires
