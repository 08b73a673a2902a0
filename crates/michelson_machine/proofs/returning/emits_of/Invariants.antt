use Rattle.std.proofs.Common.{◌≡◌, ◌++◌, drop}
use Rattle.std.specs.Option.{option_map}
use Rattle.michelson_rules.specs.Returned.{emits_of}
use Rattle.michelson_machine.proofs.returning.emits_of.Given as goal

abbrev pub invariant-loop-item : goal.invariant-loop-item
invariant-loop-item l = emits_of l.items ≡ option_map (λ more. l.ops ++ more) (emits_of (drop l.item-index l.items))
