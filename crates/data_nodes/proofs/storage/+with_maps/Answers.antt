-- One more part of a pair, big maps, and what stays as it is.
use Rattle.std.proofs.Common.{◌≡◌, ◌<◌, ◌∙◌, ap, sym, subst, arith, rules}
use Rattle.std.specs.Prelude.{IfOk}
use Rattle.value_core.specs.declared.ty.Ty.{Ty, size-Ty}
use Rattle.value_core.specs.declared.ty.Ty.TheVariants as kind
use Rattle.value_core.specs.declared.ty.Ty.TheViews.{the_lemmas}
use Rattle.value_core.specs.Combs.{comb}
use Rattle.data_nodes.specs.Storage.{with_maps}
use Rattle.data_nodes.proofs.StorageTypes.{with_maps-map, with_maps-other, written_turn}
use Rattle.data_nodes.proofs.storage.+with_maps.Goals as goal

pub loop-rest-preserved : goal.loop-rest-preserved
loop-rest-preserved t c =
    let turn = written_turn _ c.loop-rest.rest.now c.in-Pair.first c.in-Pair.behind c.loop-rest.firsts c.in-Pair.is c.loop-rest.invariant.same in
    let smaller : size-Ty c.in-Pair.behind < size-Ty c.loop-rest.rest.now = search (rules, the_lemmas) in
    record {
      same = cc (turn, c.in_ok-with_maps-in-Pair.ensures, c.in_ok-push-in-Pair.ensures.ok, c.get.ensures, c.get-rest.ensures);
      no_deeper = omega (arith, smaller, ap size-Ty c.get-rest.ensures, c.loop-rest.invariant.no_deeper);
    }

pub returns-in-BigMap : goal.returns-in-BigMap
returns-in-BigMap t c =
    let map_is : c.in_ok-map-in-BigMap.map ≡ with_maps c.loop-rest.rest.now =
    c.in_ok-map-in-BigMap.ensures ∙ (λ i. kind.Map (c.get-in-BigMap.ensures i) (c.get-in-BigMap-2.ensures i)) ∙ sym (ap with_maps c.in-BigMap.is ∙ with_maps-map c.in-BigMap.k c.in-BigMap.v) in
    subst (λ (u : Ty). IfOk c.pairs.result (λ written. written ≡ u)) (ap (comb kind.Pair c.loop-rest.firsts) map_is ∙ sym c.loop-rest.invariant.same) c.pairs.ensures

pub returns-in_default : goal.returns-in_default
returns-in_default t c =
    let last_is : c.in_ok-last-in_default.last ≡ with_maps c.loop-rest.rest.now =
    c.in_ok-last-in_default.ensures ∙ sym (with_maps-other c.loop-rest.rest.now (record { no_pair = c.in_default.not-Pair; no_map = c.in_default.not-BigMap })) in
    subst (λ (u : Ty). IfOk c.pairs-in_default.result (λ written. written ≡ u)) (ap (comb kind.Pair c.loop-rest.firsts) last_is ∙ sym c.loop-rest.invariant.same) c.pairs-in_default.ensures
