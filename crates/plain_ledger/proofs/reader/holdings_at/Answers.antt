use Rattle.std.proofs.Common.{arith}
use Rattle.plain_ledger.proofs.FileLaws.{book_lawful}
use Rattle.plain_ledger.proofs.reader.holdings_at.Goals as goal

pub returns-clause-lawful : goal.returns-clause-lawful
returns-clause-lawful c = book_lawful (λ x. (x.0.items, x.1.now)) c.args.bytes.now c.book_at.result (λ i. omega (arith, c.type_inv.bytes i)) c.book_at.ensures
