-- The number of the digits so far.
use Rattle.std.proofs.Common.{◌≡◌, ◌^◌, min, take}
use Rattle.ligo_tokens.specs.Lexing.{numeral_value}
use Rattle.ligo_tokens.proofs.numerals.numeral_value.Given as goal

abbrev pub invariant-loop-b : goal.invariant-loop-b
invariant-loop-b l = l.value ≡ min (numeral_value (take l.b-index l.digits)) (2 ^ 127)
