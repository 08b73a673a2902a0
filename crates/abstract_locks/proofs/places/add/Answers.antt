-- The row of the cell alone is another.
use Rattle.std.proofs.Common.{◌∙◌, Some, None, sym, ap}
use Rattle.std.specs.Prelude.{is_some}
use Rattle.abstract_locks.specs.Tables.{row_of}
use Rattle.abstract_locks.proofs.TableLemmas.{one_row, no_row, on_err}
use Rattle.abstract_locks.proofs.places.add.Goals as goal

pub returns-in_ok-add-in-Some-clause-added : goal.returns-in_ok-add-in-Some-clause-added
returns-in_ok-add-in-Some-clause-added c =
    one_row c.args.rows.now.entries (c.get_mut.follows.lender c.add.new.self).entries c.args.c.now c.in-Some.row.now (Some c.add.new.self) c.args.ticket (Some None)
    (sym (ap row_of c.in-Some.ensures.value)) (((c.get_mut.follows.holds c.add.new.self).3 (sym (ap is_some c.in-Some.ensures.value))).0) c.in_ok-add-in-Some.ensures.added

pub returns-in_err-add-in-Some-clause-unchanged : goal.returns-in_err-add-in-Some-clause-unchanged
returns-in_err-add-in-Some-clause-unchanged c = on_err _ c.from_residual.result
    (no_row c.args.rows.now.entries (c.get_mut.follows.lender c.add.new.self).entries c.args.c.now (Some c.add.new.self)
    (sym (ap row_of c.in-Some.ensures.value) ∙ sym c.in_err-add-in-Some.ensures.unchanged) (((c.get_mut.follows.holds c.add.new.self).3 (sym (ap is_some c.in-Some.ensures.value))).0))
