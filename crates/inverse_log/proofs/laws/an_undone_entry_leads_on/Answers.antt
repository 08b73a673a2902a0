-- The last entry is the first that is undone.
use Rattle.inverse_log.proofs.EndLaws.{may_undo_last, leads_on}
use Rattle.inverse_log.proofs.laws.an_undone_entry_leads_on.Goals as goal

pub returns-clause-may : goal.returns-clause-may
returns-clause-may c = may_undo_last

pub returns-clause-on : goal.returns-clause-on
returns-clause-on c = leads_on
