-- The law of the reader, at its place.
use Rattle.byte_fields.specs.Told.{field_fault}
use Rattle.byte_fields.proofs.Places.{is_found, is_told}
use Rattle.value_codec.proofs.ValueLaws.{spelt_reads}
use Rattle.value_codec.proofs.reader.read_val.Goals as goal

pub returns-clause-found : goal.returns-clause-found
returns-clause-found c = is_found (spelt_reads 18 128) c.args.bytes.now c.args.at c.requires field_fault c.read_placed.result (λ i. (c.type_inv.bytes i).fits) c.read_placed.ensures

pub returns-clause-only : goal.returns-clause-only
returns-clause-only c = is_told (spelt_reads 18 128) c.args.bytes.now c.args.at c.requires field_fault c.read_placed.result c.read_placed.ensures
