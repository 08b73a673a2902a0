-- From one cell to the next.
use Rattle.std.proofs.Common.{◌≡◌, Option, None, true, ap, subst, sym, ◌∙◌}
use Rattle.std.specs.FinMap.{entries}
use Rattle.byte_fields.specs.Readers.{chained}
use Rattle.byte_fields.specs.Told.{read_stop}
use Rattle.byte_fields.proofs.Loops.{is_done}
use Rattle.cell_names.specs.declared.cell.Cell.{Cell}
use Rattle.cell_names.specs.Reading.{is_above}
use Rattle.ledger_state.specs.Inside.{IsLast, IsReadInto, before}
use Rattle.ledger_state.specs.Reading.{held, next, start}
use Rattle.ledger_state.proofs.CellReads.{next_stops, none_read}
use Rattle.ledger_state.proofs.CellTurns.{none_stands, one_read, one_stands}
use Rattle.ledger_state.proofs.rows.held_at.Goals as goal

pub loop-init : goal.loop-init
loop-init c =
    let none = ap (λ s. s.cells) c.in_ok-cells.ensures in
    record {
      flight = ap (λ s. s.flight) c.in_ok-cells.ensures;
      made_for = ap (λ s. s.book) c.in_ok-cells.ensures;
      last_is = none_stands None c.in_ok-cells.cells.cells none;
      so_far = none_read c.args.book.now c.in_ok-cells.cells.cells c.args.count c.args.bytes.now none;
    }

pub next_held-requires-clause-last : goal.next_held-requires-clause-last
next_held-requires-clause-last c = subst (λ (o : Option Cell). IsLast o c.loop.cells.cells) (sym c.as_ref.ensures.value) c.loop.invariant.last_is

pub returns-in-Err-clause-read : goal.returns-in-Err-clause-read
returns-in-Err-clause-read c =
    next_stops (read_stop c.in-Err.stop) c.args.book.now c.loop.last _ c.loop.cells c.args.count c.loop.counter c.loop.rest.now _ c.as_ref.ensures.value c.loop.invariant.made_for c.loop-test.true
    c.in-Err.ensures.stop c.loop.invariant.so_far

pub loop-preserved : goal.loop-preserved
loop-preserved c =
    let above : is_above c.loop.last c.in-Ok.cell ≡ true = subst (λ (o : Option Cell). is_above o c.in-Ok.cell ≡ true) c.as_ref.ensures.value c.in-Ok.ensures.above in
    let read : IsReadInto (held c.loop.cells.book (before c.loop.last c.loop.cells.cells)) c.loop.rest.now c.loop.cells c.in-Ok.cell c.next_held.new.cells c.in-Ok.after.now =
    subst (λ (o : Option Cell). IsReadInto (held c.loop.cells.book (before o c.loop.cells.cells)) c.loop.rest.now c.loop.cells c.in-Ok.cell c.next_held.new.cells c.in-Ok.after.now)
    c.as_ref.ensures.value c.in-Ok.ensures.read in
    record {
      flight = read.flight ∙ c.loop.invariant.flight;
      made_for = read.book ∙ c.loop.invariant.made_for;
      last_is = one_stands c.loop.last c.loop.cells c.next_held.new.cells c.in-Ok.cell _ c.loop.rest.now c.in-Ok.after.now c.loop.invariant.last_is above read;
      so_far = one_read c.args.book.now c.loop.last c.loop.cells c.next_held.new.cells c.in-Ok.cell c.args.count c.loop.counter c.loop.rest.now c.in-Ok.after.now
          (chained (held c.args.book.now) next start c.args.count c.args.bytes.now) c.loop.invariant.made_for c.loop.invariant.last_is above read c.loop-test.true c.loop.invariant.so_far;
    }

pub returns-clause-read : goal.returns-clause-read
returns-clause-read c =
    is_done (held c.args.book.now) next (before c.loop.last c.loop.cells.cells) (entries c.loop.cells.cells) c.args.count c.loop.counter c.loop.rest.now
    (chained (held c.args.book.now) next start c.args.count c.args.bytes.now) c.loop-test.false c.loop.invariant.so_far
