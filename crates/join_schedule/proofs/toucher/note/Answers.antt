-- One cell more is noted.
use Rattle.std.proofs.Common.{ℕ, List, ◌++◌, ap, ◌∙◌}
use Rattle.cell_names.specs.declared.mode.Mode.{Mode}
use Rattle.join_schedule.specs.Touchers.{touches_at, noted_at}
use Rattle.join_schedule.proofs.Noted.{noted_more}
use Rattle.join_schedule.proofs.toucher.note.Goals as goal

pub loop-touch-preserved : goal.loop-touch-preserved
loop-touch-preserved c = λ q.
    c.in_ok-note_one.ensures q ∙ ap (λ (l : List (ℕ × Mode)). l ++ noted_at q c.touch-item.result.0 (c.args.op, c.touch-item.result.1)) (c.loop-touch.invariant q)
    ∙ noted_more c.args.touches.now c.args.op c.loop-touch.touch-index c.touch-item.result c.requires c.loop-touch-test.true c.touch-item.is q (touches_at c.args.touchers.now q)
