-- Each part of the parameter, with its names behind those before.
use Rattle.std.proofs.Common.{None, sym, rules}
use Rattle.micheline_text.specs.Told.{IsTold}
use Rattle.michelson_reader.specs.Answers.{read_fault}
use Rattle.michelson_reader.specs.ScriptFaults.{parameter_read}
use Rattle.michelson_reader.proofs.Ways.{is_or, no_own_name, no_word_there, not_or, or_part, other_faults, other_parts, right_refused, unfit_notes}
use Rattle.michelson_reader.proofs.parameter.+reading_parameters.Goals as goal

pub part-returns-in_default : goal.part-returns-in_default
part-returns-in_default t c =
    let is = no_word_there c.args.n.now c.in_default.not-Prim in
    record {
      read = other_parts c.args.n.now c.args.place.now.way c.args.place.now.names None is c.args.place.now.names c.read_type.result
          (no_own_name c.args.place.now.way c.args.place.now.names) c.read_type.ensures;
      way = search rules;
      fault = other_faults c.args.n.now c.args.place.now.way c.args.place.now.names None is c.read_type.result c.read_type.ensures;
    }

pub part-returns-in_default-entry_in-clause-fault : goal.part-returns-in_default-entry_in-clause-fault
part-returns-in_default-entry_in-clause-fault t c =
    unfit_notes c.args.n.now c.in-Prim.name c.in-Prim.notes c.in-Prim.args c.in-Prim.is c.no_form.result (sym (rw c.as_slice.ensures at c.in_default-entry_in.ensures)) (rw c.as_slice-in_default-entry_in.ensures at c.no_form.ensures)

pub part-returns-then-not-is_or-clause-read : goal.part-returns-then-not-is_or-clause-read
part-returns-then-not-is_or-clause-read t c =
    other_parts c.args.n.now c.args.place.now.way c.args.place.now.names c.in-Some.entry
    (not_or c.args.n.now c.in-Prim.name c.in-Prim.notes c.in-Prim.args c.in-Prim.is c.in-Some.entry (sym (rw c.as_slice.ensures at c.in-Some.ensures)) (sym (rw (c.as_slice-args.ensures, c.as_slice-2.ensures) at c.if-not-is_or.ensures)))
    _ c.read_type-then-not-is_or.result c.in_ok-name_here.ensures.names c.read_type-then-not-is_or.ensures

pub part-returns-then-not-is_or-clause-fault : goal.part-returns-then-not-is_or-clause-fault
part-returns-then-not-is_or-clause-fault t c =
    other_faults c.args.n.now c.args.place.now.way c.args.place.now.names c.in-Some.entry
    (not_or c.args.n.now c.in-Prim.name c.in-Prim.notes c.in-Prim.args c.in-Prim.is c.in-Some.entry (sym (rw c.as_slice.ensures at c.in-Some.ensures)) (sym (rw (c.as_slice-args.ensures, c.as_slice-2.ensures) at c.if-not-is_or.ensures)))
    c.read_type-then-not-is_or.result c.read_type-then-not-is_or.ensures

pub part-returns-in_err-right-clause-fault : goal.part-returns-in_err-right-clause-fault
part-returns-in_err-right-clause-fault t c =
    let is = is_or c.args.n.now c.in-Prim.name c.in-Prim.notes c.in-Prim.args c.in-Prim.is c.in-Some.entry (sym (rw c.as_slice.ensures at c.in-Some.ensures)) c.index-args-0.result c.index-args-1.result
    (sym (rw (c.as_slice-args.ensures, c.as_slice-2.ensures) at c.if-not-is_or.ensures))
    (sym (rw c.as_slice-args.ensures at c.index-args-0.is)) (sym (rw c.as_slice-args.ensures at c.index-args-1.is)) in
    let told : IsTold (read_fault c.in_err-right.field-0.0) (parameter_read c.args.n.now) = right_refused c.args.n.now c.args.place.now.way c.args.place.now.names c.in-Some.entry c.index-args-0.result c.index-args-1.result is c.in_ok-left.left c.side.new.place.names (rw (c.in_ok-name_here.ensures.way, c.in_ok-name_here.ensures.names) at c.in_ok-left.ensures.read) c.in_err-right.field-0.0 c.in_err-right.ensures.fault in
    search rules

pub part-returns-clause-read : goal.part-returns-clause-read
part-returns-clause-read t c =
    let is = is_or c.args.n.now c.in-Prim.name c.in-Prim.notes c.in-Prim.args c.in-Prim.is c.in-Some.entry (sym (rw c.as_slice.ensures at c.in-Some.ensures)) c.index-args-0.result c.index-args-1.result
    (sym (rw (c.as_slice-args.ensures, c.as_slice-2.ensures) at c.if-not-is_or.ensures))
    (sym (rw c.as_slice-args.ensures at c.index-args-0.is)) (sym (rw c.as_slice-args.ensures at c.index-args-1.is)) in
    rw c.in_ok-of.ensures
    (or_part c.args.n.now c.args.place.now.way c.args.place.now.names c.in-Some.entry c.index-args-0.result c.index-args-1.result is c.in_ok-left.left c.side.new.place.names (rw (c.in_ok-name_here.ensures.way, c.in_ok-name_here.ensures.names) at c.in_ok-left.ensures.read) c.in_ok-right.right c.side-2.new.place.names (rw (c.in_ok-left.ensures.way, c.in_ok-name_here.ensures.way) at c.in_ok-right.ensures.read))
