-- The pairs so far are the last of those that are left.
use Rattle.std.proofs.Common.{◌≡◌, ◌++◌, ◌∷◌, [], length}
use Rattle.michelson_reader.specs.Returned.{nested}
use Rattle.michelson_reader.proofs.types.comb.Given as goal

abbrev pub invariant-loop-part : goal.invariant-loop-part
invariant-loop-part l = nested l.first (l.rest ++ l.last ∷ []) ≡ nested l.fn.first l.fn.rest

abbrev pub decreases-loop-part : goal.decreases-loop-part
decreases-loop-part l = length l.rest
