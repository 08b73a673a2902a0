-- The least operation of the touches so far.
use Rattle.std.proofs.Common.{◌≡◌, take}
use Rattle.join_schedule.specs.Touchers.{least_apart}
use Rattle.join_schedule.proofs.toucher.least_among.Given as goal

abbrev pub invariant-loop-touch : goal.invariant-loop-touch
invariant-loop-touch l = l.least ≡ least_apart l.row l.mode (take l.touch-index l.touches)
