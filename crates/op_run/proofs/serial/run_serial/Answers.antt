-- An operation that was applied has run; else the log leads back to where it began.
use Rattle.std.proofs.Common.{◌≡◌, Err, ap, ◌∙◌}
use Rattle.cell_names.specs.declared.store.StoreEnd.TheVariants.{Outside}
use Rattle.op_run.proofs.SerialRuns.{at_begun}
use Rattle.op_run.proofs.SerialWhole.{as_before, has_failed, has_run, leads_somewhere, none_told, owned_back, owned_now, some_told, stays_back, unlent_first}
use Rattle.op_run.proofs.serial.run_serial.Goals as goal

pub finish-requires-clause-along : goal.finish-requires-clause-along
finish-requires-clause-along g c =
    let first = g.S.Store.seen c.args.store.now in
    let begun = c.in_ok-run.ensures in
    (first, at_begun c.in_ok-run.run' c.args.book.now c.new-log.result.entries first begun.book begun.past c.new-log.ensures c.requires.owned)

-- ---- applied

pub returns-then-is_none-clause-ran : goal.returns-then-is_none-clause-ran
returns-then-is_none-clause-ran g c =
    let first = g.S.Store.seen c.args.store.now in
    let begun = c.in_ok-run.ensures in
    let goes = c.in-Ok.ensures.goes in
    has_run c.args.book.now c.args.head c.args.op.now c.finish.new.run c.finish.new.log.entries first (g.S.Store.seen c.finish.new.store) c.into_parts-receipt.result.0 c.into_parts-receipt.result.1
    (goes.same.book ∙ begun.book) (goes.same.head ∙ begun.head) (goes.same.op ∙ begun.op)
    (goes.on first (at_begun c.in_ok-run.run' c.args.book.now c.new-log.result.entries first begun.book begun.past c.new-log.ensures c.requires.owned))
    c.in-Ok.ensures.ended c.into_parts-receipt.ensures.receipt c.into_parts-receipt.ensures.footprint
    (none_told c.into_parts-receipt.result.0.end c.is_none.result c.is_none.ensures c.if-is_none.true)

pub returns-then-is_none-clause-stays : goal.returns-then-is_none-clause-stays
returns-then-is_none-clause-stays g c =
    let first = g.S.Store.seen c.args.store.now in
    let begun = c.in_ok-run.ensures in
    (c.in-Ok.ensures.goes.on first (at_begun c.in_ok-run.run' c.args.book.now c.new-log.result.entries first begun.book begun.past c.new-log.ensures c.requires.owned)).leads.stays

pub returns-then-is_none-clause-kept : goal.returns-then-is_none-clause-kept
returns-then-is_none-clause-kept g c =
    let first = g.S.Store.seen c.args.store.now in
    let begun = c.in_ok-run.ensures in
    owned_now c.args.book.now c.finish.new.run c.finish.new.log.entries first (g.S.Store.seen c.finish.new.store) (c.in-Ok.ensures.goes.same.book ∙ begun.book)
    (c.in-Ok.ensures.goes.on first (at_begun c.in_ok-run.run' c.args.book.now c.new-log.result.entries first begun.book begun.past c.new-log.ensures c.requires.owned))

-- ---- failed

pub undo_all-requires : goal.undo_all-requires
undo_all-requires g c =
    let first = g.S.Store.seen c.args.store.now in
    let begun = c.in_ok-run.ensures in
    let at = c.in-Ok.ensures.goes.on first (at_begun c.in_ok-run.run' c.args.book.now c.new-log.result.entries first begun.book begun.past c.new-log.ensures c.requires.owned) in
    leads_somewhere c.finish.new.log.entries first (g.S.Store.seen c.finish.new.store) (g.S.Store.seen c.finish.new.store) at.leads

pub returns-in-Ok-clause-ran : goal.returns-in-Ok-clause-ran
returns-in-Ok-clause-ran g c =
    let first = g.S.Store.seen c.args.store.now in
    let now = g.S.Store.seen c.finish.new.store in
    let new = g.S.Store.seen c.undo_all.new.s in
    let begun = c.in_ok-run.ensures in
    let goes = c.in-Ok.ensures.goes in
    let at = goes.on first (at_begun c.in_ok-run.run' c.args.book.now c.new-log.result.entries first begun.book begun.past c.new-log.ensures c.requires.owned) in
    has_failed c.args.book.now c.args.head c.args.op.now c.finish.new.run c.finish.new.log.entries first now c.into_parts-receipt.result.0 c.into_parts-receipt.result.1
    (goes.same.book ∙ begun.book) (goes.same.head ∙ begun.head) (goes.same.op ∙ begun.op) at c.in-Ok.ensures.ended c.into_parts-receipt.ensures.receipt c.into_parts-receipt.ensures.footprint new
    (some_told c.into_parts-receipt.result.0.end c.is_none.result c.is_none.ensures c.if-is_none.false)
    (as_before c.finish.new.log.entries first now new at.leads (c.undo_all.ensures.reached first.cells first.flight at.leads.back) c.undo_all.ensures.stays)

pub returns-in-Ok-clause-undone : goal.returns-in-Ok-clause-undone
returns-in-Ok-clause-undone g c = λ _.
    let first = g.S.Store.seen c.args.store.now in
    let begun = c.in_ok-run.ensures in
    let at = c.in-Ok.ensures.goes.on first (at_begun c.in_ok-run.run' c.args.book.now c.new-log.result.entries first begun.book begun.past c.new-log.ensures c.requires.owned) in
    as_before c.finish.new.log.entries first (g.S.Store.seen c.finish.new.store) (g.S.Store.seen c.undo_all.new.s) at.leads (c.undo_all.ensures.reached first.cells first.flight at.leads.back)
    c.undo_all.ensures.stays

pub returns-in-Ok-clause-stays : goal.returns-in-Ok-clause-stays
returns-in-Ok-clause-stays g c =
    let first = g.S.Store.seen c.args.store.now in
    let begun = c.in_ok-run.ensures in
    let at = c.in-Ok.ensures.goes.on first (at_begun c.in_ok-run.run' c.args.book.now c.new-log.result.entries first begun.book begun.past c.new-log.ensures c.requires.owned) in
    stays_back c.finish.new.log.entries first (g.S.Store.seen c.finish.new.store) (g.S.Store.seen c.undo_all.new.s) at.leads (c.undo_all.ensures.reached first.cells first.flight at.leads.back)
    c.undo_all.ensures.stays

pub returns-in-Ok-clause-kept : goal.returns-in-Ok-clause-kept
returns-in-Ok-clause-kept g c =
    let first = g.S.Store.seen c.args.store.now in
    let begun = c.in_ok-run.ensures in
    let at = c.in-Ok.ensures.goes.on first (at_begun c.in_ok-run.run' c.args.book.now c.new-log.result.entries first begun.book begun.past c.new-log.ensures c.requires.owned) in
    owned_back c.finish.new.log.entries first (g.S.Store.seen c.finish.new.store) (g.S.Store.seen c.undo_all.new.s) at.leads (c.undo_all.ensures.reached first.cells first.flight at.leads.back)
    c.undo_all.ensures.stays c.args.book.now c.requires.owned

-- ---- an error

pub undo_all-requires-in-Err : goal.undo_all-requires-in-Err
undo_all-requires-in-Err g c =
    let first = g.S.Store.seen c.args.store.now in
    let begun = c.in_ok-run.ensures in
    let back = c.in-Err.ensures.back first (at_begun c.in_ok-run.run' c.args.book.now c.new-log.result.entries first begun.book begun.past c.new-log.ensures c.requires.owned) in
    leads_somewhere c.finish.new.log.entries first (g.S.Store.seen c.finish.new.store) (g.S.Store.seen c.finish.new.store) back

pub returns-clause-outside : goal.returns-clause-outside
returns-clause-outside g c = λ cell is.
    let first = g.S.Store.seen c.args.store.now in
    let begun = c.in_ok-run.ensures in
    let same : c.in-Err.refusal ≡ Outside cell = cc in
    unlent_first c.args.book.now c.args.head c.args.op.now c.in_ok-run.run' c.new-log.result.entries first cell begun.book begun.head begun.op
    (at_begun c.in_ok-run.run' c.args.book.now c.new-log.result.entries first begun.book begun.past c.new-log.ensures c.requires.owned) (c.in-Err.ensures.outside cell (ap Err same))

pub returns-clause-failed : goal.returns-clause-failed
returns-clause-failed g c =
    let first = g.S.Store.seen c.args.store.now in
    let begun = c.in_ok-run.ensures in
    let back = c.in-Err.ensures.back first (at_begun c.in_ok-run.run' c.args.book.now c.new-log.result.entries first begun.book begun.past c.new-log.ensures c.requires.owned) in
    as_before c.finish.new.log.entries first (g.S.Store.seen c.finish.new.store) (g.S.Store.seen c.undo_all-in-Err.new.s) back (c.undo_all-in-Err.ensures.reached first.cells first.flight back.back)
    c.undo_all-in-Err.ensures.stays

pub returns-clause-stays : goal.returns-clause-stays
returns-clause-stays g c =
    let first = g.S.Store.seen c.args.store.now in
    let begun = c.in_ok-run.ensures in
    let back = c.in-Err.ensures.back first (at_begun c.in_ok-run.run' c.args.book.now c.new-log.result.entries first begun.book begun.past c.new-log.ensures c.requires.owned) in
    stays_back c.finish.new.log.entries first (g.S.Store.seen c.finish.new.store) (g.S.Store.seen c.undo_all-in-Err.new.s) back (c.undo_all-in-Err.ensures.reached first.cells first.flight back.back)
    c.undo_all-in-Err.ensures.stays

pub returns-clause-kept : goal.returns-clause-kept
returns-clause-kept g c =
    let first = g.S.Store.seen c.args.store.now in
    let begun = c.in_ok-run.ensures in
    let back = c.in-Err.ensures.back first (at_begun c.in_ok-run.run' c.args.book.now c.new-log.result.entries first begun.book begun.past c.new-log.ensures c.requires.owned) in
    owned_back c.finish.new.log.entries first (g.S.Store.seen c.finish.new.store) (g.S.Store.seen c.undo_all-in-Err.new.s) back (c.undo_all-in-Err.ensures.reached first.cells first.flight back.back)
    c.undo_all-in-Err.ensures.stays c.args.book.now c.requires.owned
