-- By what causes a code fails by itself, when neither gas nor room is counted.
use Rattle.std.specs.Prelude.{⊤}
use Rattle.michelson_code.specs.declared.why.Why.{Why}
use Rattle.michelson_code.specs.declared.why.Why.TheVariants as why
use Rattle.michelson_rules.specs.Runs.{Ending, Failed, Missed, Return}

-- a value is raised; a number leaves its range; a shift or a value is too large; no turn is left
abbrev pub IsCause : Why → Type 0
IsCause (why.Raised v) = ⊤
IsCause why.Overflow = ⊤
IsCause why.Shift = ⊤
IsCause why.TooLarge = ⊤
IsCause why.OutOfTurns = ⊤
IsCause _ = ⊥

-- an end that is no failure but by such a cause
abbrev pub EndsByItself : {A : Type 0} → Ending A → Type 0
EndsByItself (Return a beside) = ⊤
EndsByItself (Failed y) = IsCause y
EndsByItself Missed = ⊤
