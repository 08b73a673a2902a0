use Rattle.std.proofs.Common.{◌≡◌, ◌≤◌}
use Rattle.michelson_rules.specs.World.{World}
use Rattle.michelson_rules.specs.Metered.{NeverMisses}
use Rattle.michelson_machine.specs.Resume.{outcome_at, work_at}
use Rattle.michelson_machine.proofs.state.State.run.Given as goal

abbrev pub invariant-steps : goal.invariant-steps
invariant-steps l =
    ((w : World) → NeverMisses (outcome_at w l.fn.self) → outcome_at w l.fn.self ≡ outcome_at w l.self) × (work_at l.self ≤ work_at l.fn.self)

abbrev pub decreases-steps : goal.decreases-steps
decreases-steps l = work_at l.self
