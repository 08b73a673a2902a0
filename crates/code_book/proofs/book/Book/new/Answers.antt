-- A row of nothing is the empty book.
use Rattle.code_book.proofs.Keeping.{nothing, book_is_empty}
use Rattle.code_book.proofs.book.Book.new.Goals as goal

pub invariant_of-result : goal.invariant_of-result
invariant_of-result c = nothing c.new.result.items c.new.ensures.items

pub returns : goal.returns
returns c = book_is_empty c.new.result.items c.new.ensures.items
