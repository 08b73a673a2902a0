-- The order of lists, maps and operations, and of what is left of two lists or pairs.
use Rattle.std.proofs.Common.{◌≡◌, min, length, sym, ◌∙◌, rules, arith}
use Rattle.std.specs.declared.cmp.Ordering.TheVariants.{Equal}
use Rattle.value_core.specs.declared.val.Val.TheViews.{the_lemmas}
use Rattle.value_core.specs.Order.{order}
use Rattle.value_core.proofs.OrderLemmas.{order_behind, order_lists, order_sets, order_maps, order_operations, ended, ended_flat}
use Rattle.value_core.proofs.ordering.+comparing.Goals as goal

pub compare_alike-returns-in-List-List : goal.compare_alike-returns-in-List-List
compare_alike-returns-in-List-List t c = search (rules, order_lists, order_sets)

pub compare_alike-returns-in-Map-Map : goal.compare_alike-returns-in-Map-Map
compare_alike-returns-in-Map-Map t c = search (rules, order_maps)

pub compare_alike-returns-in-Operation-Operation : goal.compare_alike-returns-in-Operation-Operation
compare_alike-returns-in-Operation-Operation t c = search (rules, order_operations)

pub compare_all-returns : goal.compare_all-returns
compare_all-returns t c = search (rules, ended)

pub compare_entries-returns : goal.compare_entries-returns
compare_entries-returns t c =
    let at_end : c.loop-i.i ≡ min (length c.args.map.now) (length c.args.other.now) = omega (arith, c.min-common.ensures) in
    c.cmp.ensures ∙ sym (ended_flat order c.args.map.now c.args.other.now c.loop-i.i at_end) ∙ sym c.loop-i.invariant

pub compare-loop-unequal-preserved : goal.compare-loop-unequal-preserved
compare-loop-unequal-preserved t c =
    let both = c.in-Pair-Pair in
    let tied : order both.x both.z ≡ Equal = search rules in
    let behind = order_behind c.loop-unequal.a.now c.loop-unequal.b.now both.x both.y both.z both.w both.is-0 both.is-1 tied in
    (cc behind, search (rules, the_lemmas))
