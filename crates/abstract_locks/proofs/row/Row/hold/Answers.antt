-- The ticket's place gets the joined mode.
use Rattle.std.proofs.Common.{Some, sym, ap, subst, ◌∙◌}
use Rattle.abstract_locks.specs.Holders.{IsFree}
use Rattle.abstract_locks.specs.Tables.{Row, place_in, holders_in}
use Rattle.abstract_locks.proofs.RowLemmas.{at_place, at_gap, no_room, replaced, next_mode, given_seen, given_is_row}
use Rattle.abstract_locks.proofs.row.Row.hold.Goals as goal

pub invariant_of-self : goal.invariant_of-self
invariant_of-self c =
    given_is_row c.self.inside.places.items _ c.args.ticket c.args.m c.further.result c.self.invariant
    (subst (λ (row : Row). IsFree (holders_in row) c.args.ticket c.args.m) (sym c.self.view_is) c.requires.free)
    (next_mode c.self.inside.places.items c.args.ticket c.index.result.now c.args.m c.further.result
    (at_place c.as_slice.result.now c.self.inside.places.items c.args.ticket c.in-Ok.i c.index.result.now c.as_slice.ensures.value c.self.invariant c.in-Ok.ensures c.index.ensures) c.further.ensures)
    (replaced c.as_slice.result.now c.self.inside.places.items c.args.ticket c.in-Ok.i c.index_mut.result.now (Some c.further.result) c.as_slice.ensures.value c.self.invariant c.in-Ok.ensures c.index_mut.ensures.value)

pub returns-in-Ok : goal.returns-in-Ok
returns-in-Ok c =
    given_seen c.self.inside.places.items c.args.self.now _ c.args.ticket c.args.m c.further.result c.self.view_is
    (next_mode c.self.inside.places.items c.args.ticket c.index.result.now c.args.m c.further.result
    (at_place c.as_slice.result.now c.self.inside.places.items c.args.ticket c.in-Ok.i c.index.result.now c.as_slice.ensures.value c.self.invariant c.in-Ok.ensures c.index.ensures) c.further.ensures)
    (replaced c.as_slice.result.now c.self.inside.places.items c.args.ticket c.in-Ok.i c.index_mut.result.now (Some c.further.result) c.as_slice.ensures.value c.self.invariant c.in-Ok.ensures c.index_mut.ensures.value)

pub returns-in_default : goal.returns-in_default
returns-in_default c = λ n. absurd
    (no_room (place_in c.args.self.now c.args.ticket)
    (sym (at_gap c.as_slice.result.now c.self.inside.places.items c.args.ticket c.in_default.field-0 c.as_slice.ensures.value c.in_default.ensures ∙ ap (λ (row : Row). place_in row c.args.ticket) c.self.view_is))
    c.requires.place)
