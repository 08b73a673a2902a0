-- Each loop's turn, and what is read of words and braces.
use Rattle.std.proofs.Common.{◌≡◌, ◌∙◌, ◌<◌, Ok, ap, arith, rules, sym, true, None, map}
use Rattle.value_core.specs.declared.ty.Ty.{Ty, size-Ty}
use Rattle.value_core.specs.declared.ty.Ty.TheViews.{the_lemmas}
use Rattle.value_core.specs.Lasts.{is_above, last_item, last_key}
use Rattle.data_nodes.specs.Readers.{ascending, comb, entries}
use Rattle.data_nodes.specs.Faults.{reader, storage_read}
use Rattle.data_nodes.proofs.Combs.{behind_firsts, comb_turn, others}
use Rattle.data_nodes.proofs.NodeLevels.{entry_prim, read_prim, read_seq}
use Rattle.data_nodes.proofs.LoopTurns.{one_above, one_entry}
use Rattle.data_nodes.proofs.+reading.Goals as goal

pub reader::value-returns-in-Prim : goal.reader::value-returns-in-Prim
reader::value-returns-in-Prim t c =
    rw (read_prim c.args.n.now c.in-Prim.name c.in-Prim.notes c.in-Prim.args c.args.t.now c.in-Prim.is) (rw (c.as_slice.ensures, c.as_slice-in-Prim.ensures) at c.applied.ensures)

pub reader::value-returns-in-Seq : goal.reader::value-returns-in-Seq
reader::value-returns-in-Seq t c = rw (read_seq c.args.n.now c.in-Seq.nodes c.args.t.now c.in-Seq.is) (rw c.as_slice-in-Seq.ensures at c.sequence.ensures)

pub items::entry-returns-in-Prim : goal.items::entry-returns-in-Prim
items::entry-returns-in-Prim t c =
    rw (entry_prim c.args.n.now c.in-Prim.name c.in-Prim.notes c.in-Prim.args (last_key c.args.before.now) c.args.k.now c.args.v.now c.in-Prim.is) (rw (c.as_slice.ensures, c.as_slice-in-Prim.ensures) at c.entry_of.ensures)

pub items::ascending-loop-node-preserved : goal.items::ascending-loop-node-preserved
items::ascending-loop-node-preserved t c =
    let above : is_above (last_item c.loop-node.items) c.in_ok-item.item ≡ true = rw (← c.as_slice.ensures) (sym c.is_above_last.ensures ∙ c.if-not-is_above_last.false) in
    let next = one_above c.args.t.now c.loop-node.items c.args.nodes.now c.loop-node.node-index c.node-item.result c.in_ok-item.item
    (ascending c.args.t.now None (map reader c.args.nodes.now)) c.loop-node-test.true (sym c.node-item.is) c.in_ok-item.ensures above c.loop-node.invariant in
    rw c.in_ok-push.ensures.ok next

pub items::entries-loop-node-preserved : goal.items::entries-loop-node-preserved
items::entries-loop-node-preserved t c =
    let next = one_entry c.args.k.now c.args.v.now c.loop-node.entries c.args.nodes.now c.loop-node.node-index c.node-item.result c.in_ok-entry.entry
    (entries c.args.k.now c.args.v.now None (map reader c.args.nodes.now)) c.loop-node-test.true (sym c.node-item.is) (rw c.as_slice.ensures at c.in_ok-entry.ensures) c.loop-node.invariant in
    rw c.in_ok-push.ensures.ok next

pub reader::comb-loop-left-preserved : goal.reader::comb-loop-left-preserved
reader::comb-loop-left-preserved t c =
    let left = c.loop-left.left.now in
    let first = c.first-item.result in
    let here : storage_read c.in-Pair.s first ≡ Ok c.in_ok-value-in-Pair.field-0 = ap (λ (s : Ty). storage_read s first) (sym c.get.ensures) ∙ c.in_ok-value-in-Pair.ensures in
    let turn = comb_turn c.args.at left c.loop-left.behind.now c.in-Pair.s c.in-Pair.t first c.in_ok-value-in-Pair.field-0 c.loop-left.firsts
    c.in-len1-up.len_at_least c.first-item.is c.in-Pair.is here in
    let deeper : size-Ty c.get-behind.result.now < size-Ty c.loop-left.behind.now = search (rules, the_lemmas) in (
      (λ i. behind_firsts (c.in_ok-push-in-Pair.ensures.ok i) (comb c.args.at (map reader (others left)) (c.get-behind.ensures i))) ∙ turn ∙ c.loop-left.invariant.0,
      omega (arith, c.loop-left.invariant.1),
    )
