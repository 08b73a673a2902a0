use Rattle.std.proofs.Common.{arith}
use Rattle.byte_fields.proofs.Places.{all_is_found, all_is_told}
use Rattle.cell_names.specs.Stops.{format_fault}
use Rattle.plain_ledger.proofs.FileLaws.{ledger_reads}
use Rattle.plain_ledger.proofs.reader.read_state.Goals as goal

pub returns-clause-found : goal.returns-clause-found
returns-clause-found c = all_is_found ledger_reads c.args.bytes.now format_fault c.state_of.result (λ i. omega (arith, c.type_inv.bytes i)) c.state_of.ensures

pub returns-clause-only : goal.returns-clause-only
returns-clause-only c = all_is_told ledger_reads c.args.bytes.now format_fault c.state_of.result c.state_of.ensures
