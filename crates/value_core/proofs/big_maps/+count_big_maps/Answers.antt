-- Other types have no big maps.
use Rattle.std.proofs.Common.{length, ap, arith}
use Rattle.value_core.proofs.BigMapLemmas.{no_maps}
use Rattle.value_core.proofs.big_maps.+count_big_maps.Goals as goal

pub returns-in_default : goal.returns-in_default
returns-in_default t c =
    omega (arith, c.loop-rest.invariant.same, ap length (no_maps c.loop-rest.rest.now c.in_default.not-Pair c.in_default.not-BigMap))
