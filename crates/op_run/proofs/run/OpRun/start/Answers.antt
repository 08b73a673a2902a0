-- A run that has accessed nothing yet follows its operation.
use Rattle.op_rules.specs.Serial.{serial}
use Rattle.op_run.specs.Follows.{IsSpent}
use Rattle.op_run.proofs.Followed.{follows_begun}
use Rattle.op_run.proofs.run.OpRun.start.Goals as goal

pub invariant_of-result : goal.invariant_of-result
unfolding serial
invariant_of-result c =
    let s = c.in_ok-state.state in
    let h = c.in_ok-state.ensures in
    record { kept = ∣ (λ (lives : ¬ IsSpent s). follows_begun c.args.book.now c.args.head c.args.op.now s h.begun h.sound h.safe h.same) ∣₁ }
