-- A part that was copied goes behind those before it.
use Rattle.std.proofs.Common.{rules}
use Rattle.value_core.specs.declared.val.Val.TheVariants as variant
use Rattle.value_core.specs.declared.val.Val.TheViews.{the_lemmas}
use Rattle.value_core.proofs.Combs.{comb_step}
use Rattle.value_core.proofs.+copying.Goals as goal

pub copying::copy_comb-loop-right-preserved : goal.copying::copy_comb-loop-right-preserved
copying::copy_comb-loop-right-preserved t c =
    let whole = comb_step variant.Pair (variant.Pair c.args.first.now c.args.rest.now) c.loop-right.left.now c.loop-right.right.now
    c.in-Pair.next c.in-Pair.behind c.loop-right.firsts c.in-Pair.is c.loop-right.invariant.0 in
    (cc (whole, c.in_ok-copy.ensures, c.in_ok-push.ensures.ok), search (rules, the_lemmas), search (rules, the_lemmas))
