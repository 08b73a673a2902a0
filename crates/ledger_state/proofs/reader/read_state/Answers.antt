-- By the law of the file.
use Rattle.std.proofs.Common.{arith}
use Rattle.byte_fields.proofs.Places.{all_is_found, all_is_told}
use Rattle.byte_fields.specs.Told.{field_fault}
use Rattle.ledger_state.proofs.FileLaws.{ledger_reads}
use Rattle.ledger_state.proofs.reader.read_state.Goals as goal

pub returns-clause-found : goal.returns-clause-found
returns-clause-found c = all_is_found ledger_reads c.args.bytes.now field_fault c.state_told.result (λ i. omega (arith, c.type_inv.bytes i)) c.state_told.ensures

pub returns-clause-only : goal.returns-clause-only
returns-clause-only c = all_is_told ledger_reads c.args.bytes.now field_fault c.state_told.result c.state_told.ensures
