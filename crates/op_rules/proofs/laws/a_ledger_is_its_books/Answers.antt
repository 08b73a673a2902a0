-- Fact by fact.
use Rattle.op_rules.proofs.LawfulLedgers.{is_book_of}
use Rattle.op_rules.proofs.laws.a_ledger_is_its_books.Goals as goal

pub returns : goal.returns
returns c = is_book_of
