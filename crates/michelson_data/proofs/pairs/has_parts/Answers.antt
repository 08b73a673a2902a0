-- What is left has the parts that are left.
use Rattle.std.proofs.Common.{subst, ◌≡◌, sym, arith}
use Rattle.value_core.specs.declared.val.Val.TheVariants as value
use Rattle.michelson_data.proofs.PartLaws.{all_parts, fewer_parts, last_part}
use Rattle.michelson_data.proofs.pairs.has_parts.Goals as goal

pub loop-init : goal.loop-init
loop-init c = all_parts c.args.n c.args.v.now

pub loop-preserved : goal.loop-preserved
loop-preserved c = λ some. fewer_parts c.args.n c.loop.counter c.args.v.now c.loop.rest.now c.in-Pair.field-0 c.get-rest.result.now c.loop-test.true
    (subst (λ w. c.loop.rest.now ≡ value.Pair c.in-Pair.field-0 w) (sym c.get-rest.ensures) c.in-Pair.is) (c.loop.invariant some)

pub returns-clause-there : goal.returns-clause-there
returns-clause-there c = λ some. last_part c.args.n c.loop.counter c.args.v.now c.loop.rest.now c.loop-test.false (c.loop.invariant (omega arith))
