-- The row of the cell alone is another.
use Rattle.std.proofs.Common.{Some, None, sym, ap}
use Rattle.std.specs.Prelude.{is_some}
use Rattle.abstract_locks.specs.Tables.{row_of}
use Rattle.abstract_locks.proofs.TableLemmas.{one_row, left_nothing}
use Rattle.abstract_locks.proofs.places.leave_row.Goals as goal

pub returns-in-Some-clause-left : goal.returns-in-Some-clause-left
returns-in-Some-clause-left c =
    one_row c.args.rows.now.entries (c.get_mut.follows.lender c.leave.new.self).entries c.args.c.now c.in-Some.row.now (Some c.leave.new.self) c.args.ticket None
    (sym (ap row_of c.in-Some.ensures.value)) (((c.get_mut.follows.holds c.leave.new.self).3 (sym (ap is_some c.in-Some.ensures.value))).0) c.leave.ensures

pub returns-in-None-clause-left : goal.returns-in-None-clause-left
returns-in-None-clause-left c =
    left_nothing c.args.rows.now.entries c.get_mut.follows.lender-at-none.entries c.args.c.now c.args.ticket (ap (λ m. m.entries) c.get_mut.follows.holds-at-none) (sym (ap row_of c.in-None.ensures.value))
