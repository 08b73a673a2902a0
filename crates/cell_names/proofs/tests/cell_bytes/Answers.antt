-- A cell that has a spelling can be written.
use Rattle.cell_names.proofs.Writable.{cell_can_be_spelt}
use Rattle.cell_names.proofs.tests.cell_bytes.Goals as goal

pub write_cell-requires : goal.write_cell-requires
write_cell-requires c = cell_can_be_spelt c.args.cell.now c.requires
