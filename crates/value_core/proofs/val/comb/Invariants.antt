-- The comb is that of the first parts that are left and of what was made so far.
use Rattle.std.proofs.Common.{◌≡◌, length}
use Rattle.value_core.specs.declared.val.Val.TheVariants as variant
use Rattle.value_core.specs.Combs.{comb}
use Rattle.value_core.proofs.val.comb.Given as goal

abbrev pub invariant-loop-part : goal.invariant-loop-part
invariant-loop-part l = comb variant.Pair l.fn.firsts l.fn.last ≡ comb variant.Pair l.firsts l.made

abbrev pub decreases-loop-part : goal.decreases-loop-part
decreases-loop-part l = length l.firsts
