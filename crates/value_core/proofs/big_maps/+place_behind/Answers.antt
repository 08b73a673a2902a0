-- The second part of a pair stands behind the first.
use Rattle.std.proofs.Common.{◌<◌, ap, sym, ◌∙◌, arith}
use Rattle.std.specs.Prelude.{option_and_then}
use Rattle.value_core.specs.declared.val.Val.{size-Val}
use Rattle.value_core.specs.BigMaps.{place_behind, placing}
use Rattle.value_core.proofs.BigMapLemmas.{placed-pair}
use Rattle.value_core.proofs.Smaller.{smaller_pair}
use Rattle.value_core.proofs.big_maps.+place_behind.Goals as goal

pub returns-in-None : goal.returns-in-None
returns-in-None t c =
    sym (c.loop-kind.invariant.same ∙ placed-pair _ _ _ _ _ _ _ c.in-Pair-Pair.is-0 c.in-Pair-Pair.is-1
    ∙ ap (option_and_then (λ next. place_behind (placing c.in-Pair-Pair.u) next c.in-Pair-Pair.b))
    ((λ i. place_behind (placing (sym c.get-in-Pair-Pair.ensures i)) c.loop-kind.next (sym c.get.ensures i)) ∙ sym c.place_behind.ensures ∙ c.in-None.is))

pub loop-kind-preserved : goal.loop-kind-preserved
loop-kind-preserved t c =
    let smaller : size-Val c.in-Pair-Pair.b < size-Val c.loop-kind.rest.now = smaller_pair _ _ _ c.in-Pair-Pair.is-1 in
    record {
      same = c.loop-kind.invariant.same ∙ placed-pair _ _ _ _ _ _ _ c.in-Pair-Pair.is-0 c.in-Pair-Pair.is-1
          ∙ ap (option_and_then (λ next. place_behind (placing c.in-Pair-Pair.u) next c.in-Pair-Pair.b))
          ((λ i. place_behind (placing (sym c.get-in-Pair-Pair.ensures i)) c.loop-kind.next (sym c.get.ensures i)) ∙ sym c.place_behind.ensures ∙ c.in-Some.is)
          ∙ (λ i. place_behind (placing (sym c.get-kind.ensures i)) c.in-Some.place (sym c.get-rest.ensures i));
      no_deeper = omega (arith, smaller, ap size-Val c.get-rest.ensures, c.loop-kind.invariant.no_deeper);
    }
