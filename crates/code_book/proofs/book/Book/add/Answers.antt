-- Each reason in its order, and what one more contract leaves.
use Rattle.std.proofs.Common.{sym, ap, ◌∙◌, arith}
use Rattle.code_book.specs.Adding.{is_too_long}
use Rattle.code_book.proofs.Reasons.{told_taken, told_full, told_by_text, is_listed, added_row, added_book}
use Rattle.code_book.proofs.book.Book.add.Goals as goal

pub returns-then-row-ge-MOST_CONTRACTS-clause-told :
    goal.returns-then-row-ge-MOST_CONTRACTS-clause-told
returns-then-row-ge-MOST_CONTRACTS-clause-told c =
    told_full c.as_slice-row.result.now c.self.inside.contracts.items c.args.self.now c.args.a c.args.t.script c.in-Err.i
    (record { same = c.as_slice-row.ensures.value; ascend = c.self.invariant.ascend; view = c.self.view_is })
    (sym c.is_implicit.ensures.implicit ∙ c.if-is_implicit.false) c.in-Err.ensures (omega arith)

pub returns-then-long-clause-told : goal.returns-then-long-clause-told
returns-then-long-clause-told c =
    told_by_text c.as_slice-row.result.now c.self.inside.contracts.items c.args.self.now c.args.a c.args.t.script c.in-Err.i _
    (record { same = c.as_slice-row.ensures.value; ascend = c.self.invariant.ascend; view = c.self.view_is })
    (sym c.is_implicit.ensures.implicit ∙ c.if-is_implicit.false) c.in-Err.ensures (omega arith)
    (ap is_too_long (sym c.script.ensures.script) ∙ sym c.in_ok-long-in-Err.ensures ∙ c.if-long.true)

pub invariant_of-self-in-Err : goal.invariant_of-self-in-Err
invariant_of-self-in-Err c =
    added_row c.as_slice-row.result.now c.self.inside.contracts.items c.put.new.row.items c.self.inside.unit c.args.a c.args.t c.in-Err.i
    c.as_slice-row.ensures.value c.self.invariant c.in-Err.ensures c.in_ok-put-in-Err.ensures.put (omega arith)
    (is_listed c.args.a c.args.t c.is_implicit.ensures.lawful (sym c.is_implicit.ensures.implicit ∙ c.if-is_implicit.false)
    (ap is_too_long (sym c.script.ensures.script) ∙ sym c.in_ok-long-in-Err.ensures ∙ c.if-long.false))

pub returns-in-Ok-clause-told : goal.returns-in-Ok-clause-told
returns-in-Ok-clause-told c =
    told_taken c.as_slice-row.result.now c.self.inside.contracts.items c.args.self.now c.args.a c.args.t.script c.in-Ok.field-0
    (record { same = c.as_slice-row.ensures.value; ascend = c.self.invariant.ascend; view = c.self.view_is })
    (sym c.is_implicit.ensures.implicit ∙ c.if-is_implicit.false) c.in-Ok.ensures

pub returns-in_ok-put-in-Err-clause-added : goal.returns-in_ok-put-in-Err-clause-added
returns-in_ok-put-in-Err-clause-added c =
    added_book c.as_slice-row.result.now c.self.inside.contracts.items c.put.new.row.items c.args.self.now c.args.a c.args.t c.in-Err.i
    (record { same = c.as_slice-row.ensures.value; ascend = c.self.invariant.ascend; view = c.self.view_is }) c.in-Err.ensures c.in_ok-put-in-Err.ensures.put

pub returns-in_ok-put-in-Err-clause-free : goal.returns-in_ok-put-in-Err-clause-free
returns-in_ok-put-in-Err-clause-free c =
    told_by_text c.as_slice-row.result.now c.self.inside.contracts.items c.args.self.now c.args.a c.args.t.script c.in-Err.i _
    (record { same = c.as_slice-row.ensures.value; ascend = c.self.invariant.ascend; view = c.self.view_is })
    (sym c.is_implicit.ensures.implicit ∙ c.if-is_implicit.false) c.in-Err.ensures (omega arith)
    (ap is_too_long (sym c.script.ensures.script) ∙ sym c.in_ok-long-in-Err.ensures ∙ c.if-long.false)
