-- A book is the map of its own entries.
use Rattle.std.specs.FinMap.{entries, from_sorted}
use Rattle.byte_fields.specs.Told.{read_stop}
use Rattle.ledger_state.specs.BookReading.{contracts}
use Rattle.ledger_state.proofs.BookLaws.{by_bytes}
use Rattle.ledger_state.proofs.Growing.{back_again, made_told}
use Rattle.ledger_state.proofs.contracts.book_at.Goals as goal

pub returns : goal.returns
returns c = made_told read_stop (λ x. (entries x.0, x.1.now)) from_sorted (λ x. x.0) contracts c.args.bytes.now c.listed_at.result (λ x. back_again by_bytes x.0) c.listed_at.ensures
