-- Two books are equal where their rows have the same scripts.
use Rattle.code_book.proofs.Keeping.{same_books}
use Rattle.code_book.proofs.book.Book.same.Goals as goal

pub returns : goal.returns
returns c =
    same_books c.as_slice.result.now c.as_slice-2.result.now c.self.inside.contracts.items c.other.inside.contracts.items c.args.self.now c.args.other.now c.same_row.result
    c.as_slice.ensures.value c.as_slice-2.ensures.value c.self.invariant.ascend c.other.invariant.ascend c.self.view_is c.other.view_is c.same_row.ensures
