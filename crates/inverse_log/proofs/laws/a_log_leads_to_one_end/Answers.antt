-- Undoing the same entries from the same cells ends in one place.
use Rattle.inverse_log.proofs.EndLaws.{one_cells, one_flight}
use Rattle.inverse_log.proofs.laws.a_log_leads_to_one_end.Goals as goal

pub returns-clause-cells : goal.returns-clause-cells
returns-clause-cells c = one_cells

pub returns-clause-flight : goal.returns-clause-flight
returns-clause-flight c = one_flight
