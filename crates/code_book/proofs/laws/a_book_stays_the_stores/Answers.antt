-- What is left fits, storages stay there, and all money stays as it is.
use Rattle.code_book.proofs.Owning.{owned_after, owned_undone}
use Rattle.code_book.proofs.laws.a_book_stays_the_stores.Goals as goal

pub returns-clause-accesses : goal.returns-clause-accesses
returns-clause-accesses c = owned_after

pub returns-clause-undos : goal.returns-clause-undos
returns-clause-undos c = owned_undone
