-- What a call that makes one value tells of the table.
use Rattle.std.specs.Prelude.{◌≡◌, Result, Ok, Err, IfSome}
use Rattle.value_core.specs.declared.val.Val.{Val}
use Rattle.michelson_rules.specs.Answers.{Answer, Ends, Misses, gives}
use Rattle.michelson_data.specs.declared.fault.DataEnd.{DataEnd}
use Rattle.michelson_data.specs.Replaces.{cause_of}

-- this is what the table gives, or the cause that it names; want of memory tells nothing
abbrev pub Tells : Result Val DataEnd → Answer → Type 0
Tells (Ok v) answer = answer ≡ gives v
Tells (Err e) answer = IfSome (cause_of e) (λ told. answer ≡ Ends told)

-- so it is where the table has a line
abbrev pub TellsIf : Result Val DataEnd → Answer → Type 0
TellsIf r answer = (answer ≡ Misses → ⊥) → Tells r answer
