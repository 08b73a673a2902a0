-- What stands at the place of the ticket, or nothing at its gap.
use Rattle.std.proofs.Common.{ap, ◌∙◌}
use Rattle.abstract_locks.specs.Tables.{Row, place_in}
use Rattle.abstract_locks.proofs.RowLemmas.{at_place, at_gap}
use Rattle.abstract_locks.proofs.row.Row.at.Goals as goal

pub returns-in-Ok : goal.returns-in-Ok
returns-in-Ok c =
    at_place c.as_slice.result.now c.self.inside.places.items c.args.ticket c.in-Ok.i c.index.result.now c.as_slice.ensures.value c.self.invariant c.in-Ok.ensures c.index.ensures
    ∙ ap (λ (row : Row). place_in row c.args.ticket) c.self.view_is

pub returns-in-Err : goal.returns-in-Err
returns-in-Err c =
    at_gap c.as_slice.result.now c.self.inside.places.items c.args.ticket c.in-Err.field-0 c.as_slice.ensures.value c.in-Err.ensures
    ∙ ap (λ (row : Row). place_in row c.args.ticket) c.self.view_is
