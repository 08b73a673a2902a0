-- One list more.
use Rattle.std.proofs.Common.{[], ℕ, ap, arith, ◌∙◌}
use Rattle.std.specs.Global.{Vec}
use Rattle.block_codec.specs.Block.{IsList}
use Rattle.block_codec.specs.Spelling.{list_bytes}
use Rattle.block_codec.proofs.Items.{good_more, spelt_more, none_missing}
use Rattle.block_codec.proofs.writer.put_joins.Goals as goal
use Rattle.block_codec.proofs.writer.put_joins.Goals.{in-Some+in_ok-put_list, in_default}

pub loop-number-preserved : goal.loop-number-preserved
loop-number-preserved c =
    elim c.match-of.branch [
      | in-Some+in_ok-put_list w ↦ record {
        written = spelt_more list_bytes c.args.joins.now c.loop-number.number w.in-Some.list.now c.args.out.now.items c.loop-number.out.items c.match-of.out.items w.in-Some.ensures c.loop-number.invariant.written (ap (λ (v : Vec ℕ). v.items) w.out-is ∙ w.in_ok-put_list.ensures.written);
        spelt = good_more IsList c.args.joins.now c.loop-number.number w.in-Some.list.now w.in-Some.ensures c.loop-number.invariant.spelt w.in_ok-put_list.ensures.spelt;
      }
      | in_default w ↦ absurd (none_missing c.args.joins.now c.loop-number.number [] (omega arith) w.in_default.ensures)
    ]
