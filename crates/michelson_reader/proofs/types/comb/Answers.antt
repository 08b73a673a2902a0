-- The last two are a pair.
use Rattle.std.proofs.Common.{◌≡◌, subst}
use Rattle.std.specs.Prelude.{IfOk}
use Rattle.value_core.specs.declared.ty.Ty.{Ty}
use Rattle.michelson_reader.specs.Returned.{nested}
use Rattle.michelson_reader.proofs.WordFaults.{pair_first, pair_last}
use Rattle.michelson_reader.proofs.types.comb.Goals as goal

pub loop-part-preserved : goal.loop-part-preserved
loop-part-preserved c =
    rw c.in_ok-last.ensures
    (pair_last _ c.loop-part.rest c.pop-in-loop-part.new.self c.in-Some-pop.part c.loop-part.last (nested c.args.first c.args.rest) c.in-Some-pop.ensures c.loop-part.invariant)

pub returns : goal.returns
returns c =
    let pairs = pair_first _ c.loop-part.last (nested c.args.first c.args.rest) c.loop-part.rest c.in_default-pop.ensures.0 c.loop-part.invariant in
    subst (λ (u : Ty). IfOk c.of-2.result (λ t. t ≡ u)) pairs c.of-2.ensures
