-- An empty row says what no row says.
use Rattle.std.proofs.Common.{◌∙◌, None, ap}
use Rattle.abstract_locks.specs.Tables.{Row, place_in}
use Rattle.abstract_locks.proofs.TableLemmas.{no_row}
use Rattle.abstract_locks.proofs.places.leave.Goals as goal

pub returns-then-leave_row : goal.returns-then-leave_row
returns-then-leave_row c = λ d n.
    ap (λ (row : Row). place_in row n) (no_row c.leave_row.new.rows.entries c.remove.new.self.entries c.args.c.now None (c.leave_row.ensures.empty c.if-leave_row.true) (c.remove.ensures.updates.0) d)
    ∙ c.leave_row.ensures.left d n
