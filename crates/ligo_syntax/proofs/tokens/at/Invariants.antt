use Rattle.std.proofs.Common.{◌≡◌, drop}
use Rattle.ligo_syntax.specs.Kinds.{has}
use Rattle.ligo_syntax.proofs.tokens.at.Given as goal

abbrev pub invariant-loop-kind : goal.invariant-loop-kind
invariant-loop-kind l = has l.kinds l.found ≡ has (drop l.kind-index l.kinds) l.found
