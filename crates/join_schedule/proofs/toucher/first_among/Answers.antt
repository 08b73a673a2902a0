-- One cell more may tell a sooner operation.
use Rattle.std.proofs.Common.{ℕ, ap, ◌∙◌, List}
use Rattle.cell_names.specs.declared.mode.Mode.{Mode}
use Rattle.join_schedule.specs.Touchers.{least_apart, touches_at}
use Rattle.join_schedule.proofs.Least.{first_apart-more}
use Rattle.join_schedule.proofs.toucher.first_among.Goals as goal

pub loop-touch-preserved : goal.loop-touch-preserved
loop-touch-preserved c =
    first_apart-more c.args.row.now (touches_at c.args.touchers.now) c.args.touches.now c.loop-touch.touch-index c.touch-item.result _ _ c.least_among-here.result c.loop-touch-test.true c.touch-item.is c.loop-touch.invariant
    (c.least_among-here.ensures ∙ ap (λ (l : List (ℕ × Mode)). least_apart c.args.row.now c.touch-item.result.1 l) c.touches_of.ensures) c.sooner_of-first.ensures
