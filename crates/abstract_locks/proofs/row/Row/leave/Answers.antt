-- The ticket's place is taken out.
use Rattle.std.proofs.Common.{None, cond, sym, ap, ◌∙◌}
use Rattle.std.specs.Prelude.{◌==◌}
use Rattle.abstract_locks.specs.Tables.{Row, place_in}
use Rattle.abstract_locks.proofs.RowLemmas.{at_gap, removed, left, left_is_row, left_none}
use Rattle.abstract_locks.proofs.row.Row.leave.Goals as goal

pub invariant_of-self : goal.invariant_of-self
invariant_of-self c =
    left_is_row c.self.inside.places.items c.remove.new.self.items c.args.ticket c.self.invariant
    (removed c.as_slice.result.now c.self.inside.places.items c.remove.new.self.items c.args.ticket c.in-Ok.i c.as_slice.ensures.value c.self.invariant c.in-Ok.ensures c.remove.ensures.items)

pub returns-in-Ok : goal.returns-in-Ok
returns-in-Ok c = λ n.
    left c.self.inside.places.items c.remove.new.self.items c.args.ticket
    (removed c.as_slice.result.now c.self.inside.places.items c.remove.new.self.items c.args.ticket c.in-Ok.i c.as_slice.ensures.value c.self.invariant c.in-Ok.ensures c.remove.ensures.items) n
    ∙ ap (λ (row : Row). cond (n == c.args.ticket) None (place_in row n)) c.self.view_is

pub returns-in_default : goal.returns-in_default
returns-in_default c =
    left_none c.args.self.now c.args.ticket
    (sym (at_gap c.as_slice.result.now c.self.inside.places.items c.args.ticket c.in_default.field-0 c.as_slice.ensures.value c.in_default.ensures ∙ ap (λ (row : Row). place_in row c.args.ticket) c.self.view_is))
