-- One part of a comb more, and the last part.
use Rattle.std.proofs.Common.{◌≡◌, ◌<◌, ◌∙◌, List, ap, sym, subst, arith, length, rules}
use Rattle.value_core.specs.declared.ty.Ty.{Ty, size-Ty}
use Rattle.value_core.specs.declared.ty.Ty.TheVariants as kind
use Rattle.value_core.specs.declared.ty.Ty.TheViews.{the_lemmas}
use Rattle.value_core.specs.declared.val.Val.{Val}
use Rattle.value_core.specs.declared.val.Val.TheVariants as value
use Rattle.value_core.specs.BigMaps.{big_maps_of}
use Rattle.value_core.specs.Combs.{comb}
use Rattle.data_nodes.specs.Parts.{BecomesKept}
use Rattle.data_nodes.proofs.Partings.{count-pair, parts_typed, tells_more}
use Rattle.data_nodes.proofs.storage.+part.Goals as goal

pub part-requires : goal.part-requires
part-requires t c =
    let smaller : size-Ty c.in-Pair.s < size-Ty c.loop-kind.kind.now = search (rules, the_lemmas) in
    let typed = parts_typed c.loop-kind.kind.now c.in-Pair.s c.in-Pair.u c.loop-kind.rest c.in-Ok.a c.in-Ok.b c.in-Pair.is c.in-Ok.ensures.pair c.loop-kind.invariant.typed in (
      omega (arith, smaller, ap size-Ty c.get.ensures, c.loop-kind.invariant.no_deeper),
      (
        omega (arith, c.loop-kind.invariant.few, count-pair c.loop-kind.kind.now c.in-Pair.s c.in-Pair.u c.in-Pair.is, ap (λ (r : Ty). length (big_maps_of r)) c.get.ensures),
        rw c.get.ensures typed.0,
      ),
    )

pub loop-kind-preserved : goal.loop-kind-preserved
loop-kind-preserved t c =
    let smaller : size-Ty c.in-Pair.u < size-Ty c.loop-kind.kind.now = search (rules, the_lemmas) in
    let typed = parts_typed c.loop-kind.kind.now c.in-Pair.s c.in-Pair.u c.loop-kind.rest c.in-Ok.a c.in-Ok.b c.in-Pair.is c.in-Ok.ensures.pair c.loop-kind.invariant.typed in
    let type_is : c.loop-kind.kind.now ≡ kind.Pair c.get.result.now c.get-kind.result.now = c.in-Pair.is ∙ sym (λ i. kind.Pair (c.get.ensures i) (c.get-kind.ensures i)) in
    let more = tells_more c.args.t.now c.loop-kind.kind.now c.get.result.now c.get-kind.result.now c.args.v c.loop-kind.rest c.in-Ok.a c.in-Ok.b c.in_ok-x-in-Ok.x
    c.args.first c.loop-kind.next c.in_ok-x-in-Ok.place c.args.entries.now.items c.loop-kind.entries.items c.part.new.entries.items c.loop-kind.firsts
    type_is c.in-Ok.ensures.pair c.loop-kind.invariant.tells c.in_ok-x-in-Ok.ensures in
    record {
      tells = λ y all last q. subst (λ (l : List Val). BecomesKept c.args.t.now c.args.v c.args.first c.args.entries.now.items (comb value.Pair l y) all last) (sym c.in_ok-push-in-Ok.ensures.ok) (more y all last q);
      typed = rw c.get-kind.ensures typed.1;
      few = omega (arith, c.loop-kind.invariant.few, count-pair c.loop-kind.kind.now c.in-Pair.s c.in-Pair.u c.in-Pair.is, ap (λ (r : Ty). length (big_maps_of r)) c.get.ensures, ap (λ (r : Ty). length (big_maps_of r)) c.get-kind.ensures, c.in_ok-x-in-Ok.ensures.1);
      no_deeper = omega (arith, smaller, ap size-Ty c.get-kind.ensures, c.loop-kind.invariant.no_deeper);
    }

pub returns : goal.returns
returns t c =
    let whole = c.loop-kind.invariant.tells c.in_ok-last.last c.last_part.new.entries.items c.in_ok-last.behind c.in_ok-last.ensures in
    rw c.in_ok-comb.ensures whole
