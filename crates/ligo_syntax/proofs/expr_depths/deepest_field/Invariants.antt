use Rattle.std.proofs.Common.{◌≡◌, drop, max}
use Rattle.ligo_syntax.specs.Depth.{deepest, field_depth}
use Rattle.ligo_syntax.proofs.expr_depths.deepest_field.Given as goal

abbrev pub invariant-loop-one : goal.invariant-loop-one
invariant-loop-one l = deepest field_depth l.fields ≡ max l.found (deepest field_depth (drop l.one-index l.fields))
