-- Words by what stands behind them, words with nothing found for them, and each body in its turn.
use Rattle.std.proofs.Common.{sym, arith, rules}
use Rattle.michelson_reader.specs.CodeFaults.{code_read}
use Rattle.michelson_reader.specs.Names.{forms_of_body, forms_of_two_bodies, forms_of_type}
use Rattle.michelson_reader.specs.Returned.{read_of}
use Rattle.michelson_reader.proofs.FormReads.{no_number, not_found, one_of_body, one_of_number, one_of_type, two_of_bodies}
use Rattle.michelson_reader.proofs.NodeReads.{code_prim, code_seq, instruction_prim}
use Rattle.michelson_reader.proofs.WordFaults.{not_with_one, not_with_two, three_arguments, told_as}
use Rattle.michelson_reader.proofs.code.+reading_code.Goals as goal

pub applied-returns-in_default : goal.applied-returns-in_default
applied-returns-in_default t c = three_arguments c.args.at c.args.name.now c.no_form.result c.args.notes.now c.args.args.now (omega arith) c.no_form.ensures

pub with_one-returns-in-Some : goal.with_one-returns-in-Some
with_one-returns-in-Some t c =
    rw (one_of_number c.args.at c.args.name.now c.args.notes.now c.args.operand.now (sym c.if-is_word.ensures) c.in-Some.least c.in-Some.field-0-1 c.in-Some.ensures)
    c.number_form.ensures

pub with_one-returns-then-takes_type : goal.with_one-returns-then-takes_type
with_one-returns-then-takes_type t c =
    rw (one_of_type c.args.at c.args.name.now c.args.notes.now c.args.operand.now (sym c.if-is_word.ensures) (no_number c.args.name.now 0 c.in_default.ensures)
    (sym c.if-takes_type.ensures)) c.type_form.ensures

pub with_one-returns-then-takes_body : goal.with_one-returns-then-takes_body
with_one-returns-then-takes_body t c =
    rw (one_of_body c.args.at c.args.name.now c.args.notes.now c.args.operand.now (sym c.if-is_word.ensures) (no_number c.args.name.now 0 c.in_default.ensures)
    (sym c.if-takes_type.ensures) (sym c.if-takes_body.ensures)) c.body_form.ensures

pub with_one-returns : goal.with_one-returns
with_one-returns t c =
    not_with_one c.args.at c.args.name.now c.no_form.result c.args.notes.now (read_of c.args.operand.now) (sym c.if-is_word.ensures)
    (no_number c.args.name.now 0 c.in_default.ensures) (not_found c.args.name.now forms_of_type (sym c.if-takes_type.ensures))
    (not_found c.args.name.now forms_of_body (sym c.if-takes_body.ensures)) c.no_form.ensures

pub with_two-returns-then-takes_two_bodies : goal.with_two-returns-then-takes_two_bodies
with_two-returns-then-takes_two_bodies t c =
    rw (two_of_bodies c.args.at c.args.name.now c.args.first.now c.args.second.now (sym c.if-is_word.ensures) (sym c.if-is_word-2.ensures)
    (sym c.if-is_word-3.ensures) (sym c.if-takes_two_bodies.ensures)) c.bodies_form.ensures

pub with_two-returns : goal.with_two-returns
with_two-returns t c =
    not_with_two c.args.at c.args.name.now c.no_form.result (read_of c.args.first.now) (read_of c.args.second.now)
    (sym c.if-is_word.ensures) (sym c.if-is_word-2.ensures) (sym c.if-is_word-3.ensures)
    (not_found c.args.name.now forms_of_two_bodies (sym c.if-takes_two_bodies.ensures)) c.no_form.ensures

pub read_code-returns-in-Prim : goal.read_code-returns-in-Prim
read_code-returns-in-Prim t c =
    told_as c.args.n.now.at c.in-Prim.name c.no_form.result (code_read c.args.n.now)
    (code_prim c.args.n.now c.in-Prim.name c.in-Prim.notes c.in-Prim.args c.in-Prim.is) (rw c.as_slice-in-Prim.ensures at c.no_form.ensures)

pub read_code-returns-in-Seq : goal.read_code-returns-in-Seq
read_code-returns-in-Seq t c = rw (code_seq c.args.n.now c.in-Seq.nodes c.in-Seq.is) (rw c.as_slice.ensures at c.in_order.ensures)

pub instruction-returns-in-Prim : goal.instruction-returns-in-Prim
instruction-returns-in-Prim t c =
    rw (instruction_prim c.args.n.now c.in-Prim.name c.in-Prim.notes c.in-Prim.args c.in-Prim.is) (search rules)
