-- What is read is spelt there, and what is spelt there is read.
use Rattle.std.proofs.Common.{arith}
use Rattle.byte_fields.specs.Told.{field_fault}
use Rattle.byte_fields.proofs.Places.{is_found, is_told}
use Rattle.cell_names.proofs.Grammar.{cell_reads}
use Rattle.cell_names.proofs.reader.read_cell.Goals as goal

pub returns-clause-found : goal.returns-clause-found
returns-clause-found c = is_found cell_reads c.args.b.now c.args.at c.requires field_fault c.cell_told.result (λ i. omega (arith, c.type_inv.b i)) c.cell_told.ensures

pub returns-clause-only : goal.returns-clause-only
returns-clause-only c = is_told cell_reads c.args.b.now c.args.at c.requires field_fault c.cell_told.result c.cell_told.ensures
