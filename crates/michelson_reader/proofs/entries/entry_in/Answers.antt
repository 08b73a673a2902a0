-- A second name, or one that is no name.
use Rattle.std.proofs.Common.{sym, ◌∙◌}
use Rattle.michelson_reader.proofs.ReadTurns.{an_unfit_name, two_names}
use Rattle.michelson_reader.proofs.entries.entry_in.Goals as goal

pub returns-then-is_some : goal.returns-then-is_some
returns-then-is_some c =
    sym (two_names c.args.notes.now c.loop-note.note-index c.note-item.result c.loop-note-test.true (sym c.note-item.is) c.in-Some.bytes.now
    (rw c.as_slice.ensures at c.in-Some.ensures) c.loop-note.found c.if-is_some.ensures)
    ∙ c.loop-note.invariant.so_far

pub returns-in_err-new : goal.returns-in_err-new
returns-in_err-new c =
    c.from_residual.ensures
    ∙ sym (an_unfit_name c.args.notes.now c.loop-note.note-index c.note-item.result c.loop-note-test.true (sym c.note-item.is) c.in-Some.bytes.now
    (rw c.as_slice.ensures at c.in-Some.ensures) c.loop-note.found c.if-is_some.ensures c.in_err-new.ensures)
    ∙ c.loop-note.invariant.so_far
