-- The pair is the comb of the copies so far and of what is left of it.
use Rattle.std.proofs.Common.{◌≡◌, ◌≤◌, ◌+◌, ◌*◌, length, max}
use Rattle.value_core.specs.declared.ty.Ty.{size-Ty}
use Rattle.value_core.specs.declared.ty.Ty.TheVariants as kind
use Rattle.value_core.specs.Combs.{comb}
use Rattle.value_core.proofs.ty.+copying_types.Given as goal

abbrev pub invariant-copy_comb-loop-right : goal.invariant-copy_comb-loop-right
invariant-copy_comb-loop-right l =
    (kind.Pair l.fn.first l.fn.rest ≡ comb kind.Pair l.firsts (kind.Pair l.left l.right))
    × (size-Ty l.left ≤ max (size-Ty l.fn.first) (size-Ty l.fn.rest))
    × (size-Ty l.right ≤ max (size-Ty l.fn.first) (size-Ty l.fn.rest))

abbrev pub invariant-copy_comb-loop-part : goal.invariant-copy_comb-loop-part
invariant-copy_comb-loop-part l = kind.Pair l.fn.first l.fn.rest ≡ comb kind.Pair l.firsts l.comb

abbrev pub decreases-copy_comb-loop-part : goal.decreases-copy_comb-loop-part
decreases-copy_comb-loop-part l = length l.firsts

abbrev pub decreases-Ty::copy : goal.decreases-Ty::copy
decreases-Ty::copy l = 2 * size-Ty l.self.now

abbrev pub decreases-copy_boxed : goal.decreases-copy_boxed
decreases-copy_boxed l = 2 * size-Ty l.t.now + 1

abbrev pub decreases-copy_comb : goal.decreases-copy_comb
decreases-copy_comb l = 2 * max (size-Ty l.first.now) (size-Ty l.rest.now) + 1
