-- What a call answers and leaves on the stack, by what the table says of the operands.
use Rattle.std.specs.Prelude.{◌≡◌, List, ◌++◌, ⊤, Option, Some, None, Result, MatchResult, IfSome}
use Rattle.value_core.specs.declared.val.Val.{Val}
use Rattle.michelson_code.specs.declared.why.Why.{Why}
use Rattle.michelson_code.specs.declared.why.Why.TheVariants as why
use Rattle.michelson_rules.specs.Answers.{Answered, Ends, Gives, Misses}
use Rattle.michelson_data.specs.declared.fault.DataEnd.{DataEnd}
use Rattle.michelson_data.specs.declared.fault.DataEnd.TheVariants as end

-- the cause that an end is; want of memory is none
abbrev pub cause_of : DataEnd → Option Why
cause_of end.Overflow = Some why.Overflow
cause_of end.Shift = Some why.Shift
cause_of end.TooLarge = Some why.TooLarge
cause_of end.NoMemory = None

-- results come in the place of the operands; at a failure these are gone; where the table has no line nothing is promised
abbrev pub Replaces : {T : Type 0} → Answered → Result T DataEnd → List Val → Type 0
Replaces (Gives results, below) answer stack = MatchResult answer (λ done. stack ≡ results ++ below) (λ e. e ≡ end.NoMemory)
Replaces (Ends y, below) answer stack =
    MatchResult answer (λ done. ⊥) (λ e. IfSome (cause_of e) (λ told. (told ≡ y) × (stack ≡ below)))
Replaces (Misses, below) answer stack = ⊤
