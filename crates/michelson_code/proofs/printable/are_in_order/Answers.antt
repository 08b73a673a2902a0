-- The names that are left are in order behind the last one where they are behind the one before.
use Rattle.std.proofs.Common.{sym, ◌∙◌}
use Rattle.michelson_code.proofs.InOrder.{are_in_order-next}
use Rattle.michelson_code.proofs.printable.are_in_order.Goals as goal

pub loop-name-preserved : goal.loop-name-preserved
loop-name-preserved c =
    c.loop-name.invariant
    ∙ are_in_order-next c.in-Some.rest.now c.loop-name.name-index c.loop-name.last.now c.as_slice.result.now c.as_slice-last-in-loop-name.result.now c.name-item.result
    c.name-item.is c.loop-name-test.true (sym c.is_before.ensures ∙ c.if-not-is_before.false) c.as_slice.ensures c.as_slice-last-in-loop-name.ensures
