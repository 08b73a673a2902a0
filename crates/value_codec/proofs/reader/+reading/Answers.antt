-- Each loop's turn, and the reader at its tag.
use Rattle.std.proofs.Common.{◌≡◌, sym, ◌∙◌, true, None}
use Rattle.byte_fields.specs.Readers.{many}
use Rattle.value_core.specs.Lasts.{is_above, last_item, last_key}
use Rattle.value_codec.specs.Reading.{value, ascending, entries}
use Rattle.value_codec.proofs.Turns.{one_more, one_above, one_entry, value_is}
use Rattle.value_codec.proofs.reader.+reading.Goals as goal

pub items_at-loop-preserved : goal.items_at-loop-preserved
items_at-loop-preserved t c =
    let next = one_more (value c.args.most c.args.depth) c.loop.items c.args.count c.loop.counter c.loop.rest.now c.in_ok-item.item c.in_ok-item.after.now
    (many (value c.args.most c.args.depth) c.args.count c.args.bytes.now) c.loop-test.true c.in_ok-item.ensures c.loop.invariant in
    rw c.in_ok-push.ensures.ok next

pub ascending_at-loop-preserved : goal.ascending_at-loop-preserved
ascending_at-loop-preserved t c =
    let above : is_above (last_item c.loop.items) c.in_ok-item.item ≡ true = rw (← c.as_slice.ensures) (sym c.is_above_last.ensures ∙ c.if-not-is_above_last.false) in
    let next = one_above (value c.args.most c.args.depth) c.loop.items c.args.count c.loop.counter c.loop.rest.now c.in_ok-item.item c.in_ok-item.after.now
    (ascending (value c.args.most c.args.depth) None c.args.count c.args.bytes.now) c.loop-test.true c.in_ok-item.ensures above c.loop.invariant in
    rw c.in_ok-push.ensures.ok next

pub entries_at-loop-preserved : goal.entries_at-loop-preserved
entries_at-loop-preserved t c =
    let above : is_above (last_key c.loop.entries) c.in_ok-key.key ≡ true = rw (← c.as_slice.ensures) (sym c.is_above_last_key.ensures ∙ c.if-not-is_above_last_key.false) in
    let next = one_entry (value c.args.most c.args.depth) c.loop.entries c.args.count c.loop.counter c.loop.rest.now c.in_ok-key.key c.in_ok-item.item c.in_ok-key.after.now c.in_ok-item.after.now
    (entries (value c.args.most c.args.depth) None c.args.count c.args.bytes.now) c.loop-test.true c.in_ok-key.ensures above c.in_ok-item.ensures c.loop.invariant in
    rw c.in_ok-push.ensures.ok next

pub value_at-returns : goal.value_at-returns
value_at-returns t c =
    rw (value_is c.args.most c.args.depth c.args.bytes.now c.in_ok-tag.tag c.in_ok-tag.rest.now c.if-depth-eq0.false c.in_ok-tag.ensures (sym c.may_stand.ensures ∙ c.if-not-may_stand.false)) c.behind.ensures
