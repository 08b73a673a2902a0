-- The soonest that the cells so far tell.
use Rattle.std.proofs.Common.{◌≡◌, take}
use Rattle.std.specs.Option.{option_map}
use Rattle.join_schedule.specs.Touchers.{first_apart, touches_at}
use Rattle.join_schedule.proofs.toucher.first_among.Given as goal

abbrev pub invariant-loop-touch : goal.invariant-loop-touch
invariant-loop-touch l = option_map (λ x. (x.0, x.1.now)) l.first ≡ first_apart l.row (touches_at l.touchers) (take l.touch-index l.touches)
