use Rattle.std.proofs.Common.{◌≡◌, drop, max}
use Rattle.ligo_syntax.specs.Depth.{deepest, expr_depth}
use Rattle.ligo_syntax.proofs.expr_depths.deepest_expr.Given as goal

abbrev pub invariant-loop-one : goal.invariant-loop-one
invariant-loop-one l = deepest expr_depth l.exprs ≡ max l.found (deepest expr_depth (drop l.one-index l.exprs))
