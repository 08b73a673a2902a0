-- The parts on top in the place of their pairs.
use Rattle.std.proofs.Common.{sym, ap, length, ◌∙◌}
use Rattle.michelson_data.proofs.StackLaws.{put_slice_together}
use Rattle.michelson_data.proofs.pairs.together.Goals as goal

pub returns-clause-applies : goal.returns-clause-applies
returns-clause-applies c = put_slice_together c.args.n c.len-height.result c.args.stack.now.items c.as_slice.result.now c.settle.new.stack.items c.combed-made.result c.settle.result
    c.as_slice.ensures.value (c.len-height.ensures ∙ sym c.as_slice.ensures.len ∙ ap length c.as_slice.ensures.value) c.if-height-n.false c.combed-made.ensures c.settle.ensures.told c.settle.ensures.left
