use Rattle.std.proofs.Common.{◌≡◌, None}
use Rattle.michelson_machine.specs.Outcomes.{awaits}
use Rattle.vectors.proofs.run.run_to_the_end.Given as goal

abbrev pub invariant-loop : goal.invariant-loop
invariant-loop l = awaits l.machine ≡ None
