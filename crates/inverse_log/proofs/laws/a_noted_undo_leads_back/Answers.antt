-- The undo takes the access back, and the log leads on from there.
use Rattle.inverse_log.proofs.EndLaws.{leads_back}
use Rattle.inverse_log.proofs.laws.a_noted_undo_leads_back.Goals as goal

pub returns : goal.returns
returns c = leads_back
