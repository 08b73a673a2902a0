-- A book has as many contracts as its row.
use Rattle.std.proofs.Common.{length, ap, sym, ◌∙◌}
use Rattle.std.specs.FinMap.{len}
use Rattle.code_book.specs.Books.{Contracts}
use Rattle.code_book.proofs.Rows.{len-book}
use Rattle.code_book.proofs.book.Book.len.Goals as goal

pub returns-clause-length : goal.returns-clause-length
returns-clause-length c = ap length c.as_slice.ensures.value ∙ sym (len-book c.self.inside.contracts.items c.self.invariant.ascend) ∙ ap (λ (b : Contracts). len b) c.self.view_is
