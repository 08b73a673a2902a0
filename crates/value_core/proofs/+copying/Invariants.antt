-- What has been copied so far is the front of the list, and of a pair the first parts of the comb.
use Rattle.std.proofs.Common.{◌≡◌, ◌≤◌, ◌+◌, ◌*◌, max, take}
use Rattle.value_core.specs.declared.val.Val.{size-Val}
use Rattle.value_core.specs.declared.val.Val.TheVariants as variant
use Rattle.value_core.specs.Combs.{comb}
use Rattle.value_core.proofs.+copying.Given as goal

abbrev pub invariant-copying::copy_all-loop-item : goal.invariant-copying::copy_all-loop-item
invariant-copying::copy_all-loop-item l = l.made ≡ take l.item-index l.items

abbrev pub invariant-copying::copy_entries-loop-entry : goal.invariant-copying::copy_entries-loop-entry
invariant-copying::copy_entries-loop-entry l = l.made ≡ take l.entry-index l.entries

abbrev pub invariant-copying::copy_comb-loop-right : goal.invariant-copying::copy_comb-loop-right
invariant-copying::copy_comb-loop-right l =
    (variant.Pair l.fn.first l.fn.rest ≡ comb variant.Pair l.firsts (variant.Pair l.left l.right))
    × (size-Val l.left ≤ max (size-Val l.fn.first) (size-Val l.fn.rest))
    × (size-Val l.right ≤ max (size-Val l.fn.first) (size-Val l.fn.rest))

abbrev pub decreases-val::Val::copy : goal.decreases-val::Val::copy
decreases-val::Val::copy l = 2 * size-Val l.self.now

abbrev pub decreases-val::Emit::copy : goal.decreases-val::Emit::copy
decreases-val::Emit::copy l = 2 * goal.size-val::Emit::copy l

abbrev pub decreases-copying::copy_comb : goal.decreases-copying::copy_comb
decreases-copying::copy_comb l = 2 * max (size-Val l.first.now) (size-Val l.rest.now) + 1

abbrev pub decreases-copying::copy_all : goal.decreases-copying::copy_all
decreases-copying::copy_all l = 2 * goal.size-copying::copy_all l + 1

abbrev pub decreases-copying::copy_entries : goal.decreases-copying::copy_entries
decreases-copying::copy_entries l = 2 * goal.size-copying::copy_entries l + 1
