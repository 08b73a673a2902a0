-- What a call makes that is still to be tested for its size.
use Rattle.std.specs.Prelude.{◌≡◌}
use Rattle.value_core.specs.declared.val.Val.{Val}
use Rattle.michelson_rules.specs.Answers.{Answer, Misses, sized}

-- where the table has a line, it gives this value unless that is too large
abbrev pub IsSizedOf : Val → Answer → Type 0
IsSizedOf made answer = (answer ≡ Misses → ⊥) → answer ≡ sized made
