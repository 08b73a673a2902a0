-- One operation more is marked, with what its row marks.
use Rattle.std.proofs.Common.{◌≡◌, ◌<◌, ◌||◌, length, get_or, arith, ap, ◌∙◌, List, Bool}
use Rattle.join_schedule.specs.Sets.{is_marked}
use Rattle.join_schedule.proofs.Rows.{stair, marked_more}
use Rattle.join_schedule.proofs.before.mark_before.Goals as goal

pub add-requires : goal.add-requires
add-requires c =
    let k = get_or c.args.list.now c.loop-earlier.earlier-index 0 in
    let low : k < length c.args.row.now = c.requires.earlier c.loop-earlier.earlier-index c.loop-earlier-test.true in
    let there : k < length c.args.rows.now = omega (arith, c.requires.count) in
    let len : length c.index-rows-earlier.result.items ≡ k = stair c.args.rows.now k c.index-rows-earlier.result c.requires.stairs there c.index-rows-earlier.is in
    omega (arith, ap length c.as_slice.ensures.value, c.loop-earlier.auto.row)

pub loop-earlier-preserved : goal.loop-earlier-preserved
loop-earlier-preserved c =
    let k = get_or c.args.list.now c.loop-earlier.earlier-index 0 in
    let low : k < length c.args.row.now = c.requires.earlier c.loop-earlier.earlier-index c.loop-earlier-test.true in
    let there : k < length c.args.rows.now = omega (arith, c.requires.count) in
    let small : k < length c.add.new.row = omega (arith, c.loop-earlier.auto.row, c.add.auto.row) in
    marked_more c.args.row.now c.loop-earlier.row c.add.new.row c.args.list.now c.args.rows.now c.loop-earlier.earlier-index c.index-rows-earlier.result c.loop-earlier-test.true there c.index-rows-earlier.is small
    c.loop-earlier.invariant (λ i. c.add.ensures i ∙ ap (λ (row : List Bool). is_marked c.loop-earlier.row i || is_marked row i) c.as_slice.ensures.value)
