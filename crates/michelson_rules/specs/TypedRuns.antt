-- What the run of a typed code comes to: it misses no operand, and what it returns has the types of the code's outcome.
use Rattle.std.specs.Prelude.{IsTrue, ◌≡◌, ◌≤◌, List, ◌++◌, ⊤}
use Rattle.value_core.specs.declared.ty.Ty.{Ty}
use Rattle.value_core.specs.declared.val.Val.{Val}
use Rattle.value_core.specs.BigMaps.{has_no_big_map}
use Rattle.value_core.specs.Depth.{depth_of}
use Rattle.value_core.specs.Sound.{is_plain}
use Rattle.michelson_code.specs.declared.why.Why.{Why}
use Rattle.michelson_code.specs.declared.why.Why.TheVariants as why
use Rattle.michelson_code.specs.Typing.{Outcome, To, Fails}
use Rattle.michelson_rules.specs.Bodies.{Meaning}
use Rattle.michelson_rules.specs.Runs.{Beside, Changes, Ending, Failed, Missed, Return}
use Rattle.michelson_rules.specs.TypedValues.{AllBelong}

-- a value that may be raised: it is plain, no big map stands in it, and it is at most 128 deep
pub record MayBeRaised (v : Val) : Type 0 where
  pub plain : IsTrue (is_plain v)
  pub free : IsTrue (has_no_big_map v)
  pub depth : depth_of v ≤ 128

-- a cause for which a run of a typed code fails
abbrev pub IsCodeCause : Why → Type 0
IsCodeCause (why.Raised v) = MayBeRaised v
IsCodeCause why.Overflow = ⊤
IsCodeCause why.Shift = ⊤
IsCodeCause why.TooLarge = ⊤
IsCodeCause why.OutOfGas = ⊤
IsCodeCause why.OutOfTurns = ⊤
IsCodeCause why.TooMuchData = ⊤
IsCodeCause y = ⊥

-- nothing is missed, what fails has such a cause, and whatever is returned is so
abbrev pub EndsSo : {A : Type 0} → (A → Beside → Type 0) → Ending A → Type 0
EndsSo P (Return a beside) = P a beside
EndsSo P (Failed y) = IsCodeCause y
EndsSo P Missed = ⊥

-- there are no more turns left than before, and the versions are those from before and some behind them
pub record Follows (before after : Beside) : Type 0 where
  pub turns : after.turns ≤ before.turns
  pub later : List Changes
  pub versions : after.versions ≡ before.versions ++ later

module _ (maps : List (Ty × Ty)) where
  -- a stack of the outcome's types is left; where the code fails on each way there is none
  abbrev pub Leaves : Beside → Outcome → List Val → Beside → Type 0
  Leaves before (To ts) stack after = Follows before after × AllBelong maps after.versions stack ts
  Leaves before Fails stack after = ⊥

  -- from each stack of these types it goes to the outcome
  abbrev pub Goes : List Ty → Outcome → Meaning → Type 0
  Goes from o m = (stack : List Val) (beside : Beside) → AllBelong maps beside.versions stack from → EndsSo (Leaves beside o) (m stack beside).ending
