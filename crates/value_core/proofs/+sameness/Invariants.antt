-- The fronts that were compared are equal; the values are where what is left of them is.
use Rattle.std.proofs.Common.{◌≡◌, ◌↔◌, ◌≤◌, take}
use Rattle.value_core.specs.declared.val.Val.{size-Val}
use Rattle.value_core.proofs.+sameness.Given as goal

abbrev pub invariant-sameness::all_same-loop-i : goal.invariant-sameness::all_same-loop-i
invariant-sameness::all_same-loop-i l = take l.i l.a ≡ take l.i l.b

abbrev pub invariant-sameness::entries_same-loop-i : goal.invariant-sameness::entries_same-loop-i
invariant-sameness::entries_same-loop-i l = take l.i l.a ≡ take l.i l.b

abbrev pub invariant-val::Val::same-loop-v : goal.invariant-val::Val::same-loop-v
invariant-val::Val::same-loop-v l = ((l.fn.self ≡ l.fn.other) ↔ (l.v ≡ l.w)) × (size-Val l.v ≤ size-Val l.fn.self)
