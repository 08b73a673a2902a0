-- The place goes into the gap of the ticket.
use Rattle.std.proofs.Common.{cond, Some, None, sym, ap, ◌∙◌}
use Rattle.std.specs.Prelude.{◌==◌}
use Rattle.abstract_locks.specs.Tables.{Row, place_in}
use Rattle.abstract_locks.proofs.RowLemmas.{at_gap, not_placed, inserted, added, added_is_row}
use Rattle.abstract_locks.proofs.row.Row.add.Goals as goal

pub invariant_of-self-in-Err : goal.invariant_of-self-in-Err
invariant_of-self-in-Err c =
    added_is_row c.self.inside.places.items c.insert.new.self.items c.args.ticket c.self.invariant
    (sym (at_gap c.as_slice.result.now c.self.inside.places.items c.args.ticket c.in-Err.i c.as_slice.ensures.value c.in-Err.ensures))
    (inserted c.as_slice.result.now c.self.inside.places.items c.insert.new.self.items c.args.ticket c.in-Err.i c.as_slice.ensures.value c.in-Err.ensures c.in_ok-insert-in-Err.ensures.items)

pub returns-in-Ok-clause-added : goal.returns-in-Ok-clause-added
returns-in-Ok-clause-added c = λ n. absurd
    (not_placed c.as_slice.result.now c.self.inside.places.items c.args.ticket c.in-Ok.field-0 c.as_slice.ensures.value c.self.invariant c.in-Ok.ensures
    (ap (λ (row : Row). place_in row c.args.ticket) c.self.view_is ∙ c.requires))

pub returns-in_ok-insert-in-Err-clause-added : goal.returns-in_ok-insert-in-Err-clause-added
returns-in_ok-insert-in-Err-clause-added c = λ n.
    added c.self.inside.places.items c.insert.new.self.items c.args.ticket
    (inserted c.as_slice.result.now c.self.inside.places.items c.insert.new.self.items c.args.ticket c.in-Err.i c.as_slice.ensures.value c.in-Err.ensures c.in_ok-insert-in-Err.ensures.items) n
    ∙ ap (λ (row : Row). cond (n == c.args.ticket) (Some None) (place_in row n)) c.self.view_is
