use Rattle.std.proofs.Common.{◌≡◌, drop, max}
use Rattle.ligo_syntax.specs.Depth.{deepest, arm_depth}
use Rattle.ligo_syntax.proofs.expr_depths.deepest_arm.Given as goal

abbrev pub invariant-loop-one : goal.invariant-loop-one
invariant-loop-one l = deepest arm_depth l.arms ≡ max l.found (deepest arm_depth (drop l.one-index l.arms))
