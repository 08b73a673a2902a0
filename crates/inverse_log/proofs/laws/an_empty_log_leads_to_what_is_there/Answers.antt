-- Nothing is undone.
use Rattle.std.proofs.Common.{refl}
use Rattle.std.proofs.lemmas.List.Elements.{All-nil}
use Rattle.inverse_log.proofs.laws.an_empty_log_leads_to_what_is_there.Goals as goal

pub returns : goal.returns
returns c = λ seen. record { ends = (refl, refl); changes = All-nil _ }
