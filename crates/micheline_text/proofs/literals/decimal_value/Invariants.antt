-- The number of the digits so far.
use Rattle.std.proofs.Common.{◌≡◌, ◌^◌, min, take}
use Rattle.micheline_text.specs.Literals.{decimal_value}
use Rattle.micheline_text.proofs.literals.decimal_value.Given as goal

abbrev pub invariant-loop-b : goal.invariant-loop-b
invariant-loop-b l = l.value ≡ min (decimal_value (take l.b-index l.digits)) (2 ^ 127)
