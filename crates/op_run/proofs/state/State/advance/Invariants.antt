-- What comes of the run is what came of it when it began, and less is left to do.
use Rattle.std.proofs.Common.{◌≤◌}
use Rattle.op_run.specs.Sound.{Sound}
use Rattle.op_run.specs.States.{Stays}
use Rattle.op_run.specs.Steps.{GoesOn, StaysSafe, work}
use Rattle.op_run.specs.Follows.{IsSpent}
use Rattle.op_run.proofs.state.State.advance.Given as goal

abbrev pub invariant-steps : goal.invariant-steps
invariant-steps l = record {
  stays : Stays l.fn.self l.self;
  sound : Sound l.self;
  same : GoesOn l.fn.self l.fn.self.phase l.self;
  safe : StaysSafe l.fn.self l.fn.self.phase l.self;
  less : work l.self ≤ work l.fn.self;
  lives : IsSpent l.fn.self → IsSpent l.self;
}

abbrev pub decreases-steps : goal.decreases-steps
decreases-steps l = work l.self
