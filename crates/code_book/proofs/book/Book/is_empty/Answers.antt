-- A book is empty where its row is.
use Rattle.code_book.proofs.Keeping.{empty_answer}
use Rattle.code_book.proofs.book.Book.is_empty.Goals as goal

pub returns : goal.returns
returns c =
    empty_answer c.as_slice.result.now c.self.inside.contracts.items c.args.self.now c.is_empty.result c.as_slice.ensures.value c.self.invariant.ascend c.self.view_is c.is_empty.ensures
