-- What stood in a cell fits it, and an account that had something may have it again.
use Rattle.code_book.proofs.Owning.{undo_fits, may_be_taken}
use Rattle.code_book.proofs.laws.the_undo_of_a_fit_access_is_fit.Goals as goal

pub returns-clause-fit : goal.returns-clause-fit
returns-clause-fit c = undo_fits

pub returns-clause-taken : goal.returns-clause-taken
returns-clause-taken c = may_be_taken
