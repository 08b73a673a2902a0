use Rattle.std.proofs.Common.{take}
use Rattle.abstract_locks.proofs.ListLemmas.{HasLeft}
use Rattle.abstract_locks.proofs.places.leave_all.Given as goal

abbrev pub invariant-loop-cell : goal.invariant-loop-cell
invariant-loop-cell l = HasLeft l.initial.rows.entries l.rows.entries l.ticket (take l.cell-index l.cells)
