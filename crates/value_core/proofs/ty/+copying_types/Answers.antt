-- A part that was copied goes behind those before it.
use Rattle.std.proofs.Common.{rules}
use Rattle.value_core.specs.declared.ty.Ty.TheVariants as kind
use Rattle.value_core.specs.declared.ty.Ty.TheViews.{the_lemmas}
use Rattle.value_core.proofs.Combs.{comb_step}
use Rattle.value_core.proofs.ty.+copying_types.Goals as goal

pub copy_comb-loop-right-preserved : goal.copy_comb-loop-right-preserved
copy_comb-loop-right-preserved t c =
    let whole = comb_step kind.Pair (kind.Pair c.args.first.now c.args.rest.now) c.loop-right.left.now c.loop-right.right.now
    c.in-Pair.next c.in-Pair.behind c.loop-right.firsts c.in-Pair.is c.loop-right.invariant.0 in
    (cc (whole, c.in_ok-copy.ensures, c.in_ok-push.ensures.ok), search (rules, the_lemmas), search (rules, the_lemmas))
