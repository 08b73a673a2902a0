-- By the law of contracts.
use Rattle.std.proofs.Common.{arith}
use Rattle.byte_fields.specs.Told.{read_stop}
use Rattle.ledger_state.proofs.Listing.{listed_told}
use Rattle.ledger_state.proofs.contracts.contract_at.Goals as goal

pub returns-clause-listed : goal.returns-clause-listed
returns-clause-listed c =
    listed_told read_stop (λ x. ((x.0.0, x.0.1.script), x.1.now)) c.args.last c.args.bytes.now c.named_at.result (λ i. omega (arith, c.type_inv.bytes i)) c.named_at.ensures.read
