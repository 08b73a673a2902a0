use Rattle.std.proofs.Common.{◌≡◌, drop, max}
use Rattle.ligo_syntax.specs.Depth.{deepest, pattern_depth}
use Rattle.ligo_syntax.proofs.pattern_nodes.deepest_pattern.Given as goal

abbrev pub invariant-loop-one : goal.invariant-loop-one
invariant-loop-one l = deepest pattern_depth l.patterns ≡ max l.found (deepest pattern_depth (drop l.one-index l.patterns))
