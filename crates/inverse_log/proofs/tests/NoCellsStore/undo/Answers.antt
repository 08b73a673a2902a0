-- Nothing is put back, since nothing is fit and there is no money.
use Rattle.inverse_log.proofs.NoCells.{undone_of_nothing}
use Rattle.inverse_log.proofs.tests.NoCellsStore.undo.Goals as goal

pub returns : goal.returns
returns c = undone_of_nothing c.args.u c.requires
