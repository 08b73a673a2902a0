-- What is read is spelt there, and what is spelt there is read.
use Rattle.std.proofs.Common.{arith}
use Rattle.byte_fields.specs.Told.{field_fault}
use Rattle.byte_fields.proofs.Places.{is_found, is_told}
use Rattle.cell_names.proofs.Grammar.{footprint_reads}
use Rattle.cell_names.proofs.reader.read_footprint.Goals as goal

pub returns-clause-found : goal.returns-clause-found
returns-clause-found c = is_found footprint_reads c.args.b.now c.args.at c.requires field_fault c.footprint_told.result (λ i. omega (arith, c.type_inv.b i)) c.footprint_told.ensures

pub returns-clause-only : goal.returns-clause-only
returns-clause-only c = is_told footprint_reads c.args.b.now c.args.at c.requires field_fault c.footprint_told.result c.footprint_told.ensures
