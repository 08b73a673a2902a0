-- The order of two lists, and of two values, is that of what is left of them.
use Rattle.std.proofs.Common.{◌≡◌, ◌≤◌, drop}
use Rattle.std.specs.Cmp.Lexicographic.{slice_cmp}
use Rattle.value_core.specs.declared.val.Val.{size-Val}
use Rattle.value_core.specs.Layer.{flat}
use Rattle.value_core.specs.Order.{order}
use Rattle.value_core.proofs.ordering.+comparing.Given as goal

abbrev pub invariant-compare_all-loop-i : goal.invariant-compare_all-loop-i
invariant-compare_all-loop-i l = slice_cmp order l.a l.b ≡ slice_cmp order (drop l.i l.a) (drop l.i l.b)

abbrev pub invariant-compare_entries-loop-i : goal.invariant-compare_entries-loop-i
invariant-compare_entries-loop-i l =
    slice_cmp order (flat l.map) (flat l.other) ≡ slice_cmp order (flat (drop l.i l.map)) (flat (drop l.i l.other))

abbrev pub invariant-compare-loop-unequal : goal.invariant-compare-loop-unequal
invariant-compare-loop-unequal l = (order l.fn.a l.fn.b ≡ order l.a l.b) × (size-Val l.a ≤ size-Val l.fn.a)
