-- Accesses of different cells, and accesses of one cell that both read or both credit.
use Rattle.cell_names.proofs.Exchanging.{exchanged, flights_exchanged}
use Rattle.cell_names.proofs.laws.apart_accesses_may_be_exchanged.Goals as goal

pub returns-clause-cells : goal.returns-clause-cells
returns-clause-cells c = exchanged

pub returns-clause-flight : goal.returns-clause-flight
returns-clause-flight c = flights_exchanged
