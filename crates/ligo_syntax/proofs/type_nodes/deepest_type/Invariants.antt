use Rattle.std.proofs.Common.{◌≡◌, drop, max}
use Rattle.ligo_syntax.specs.Depth.{deepest, type_depth}
use Rattle.ligo_syntax.proofs.type_nodes.deepest_type.Given as goal

abbrev pub invariant-loop-one : goal.invariant-loop-one
invariant-loop-one l = deepest type_depth l.types ≡ max l.found (deepest type_depth (drop l.one-index l.types))
