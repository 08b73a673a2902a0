-- What a run comes to within its gas and its room: it is cut before the first charge, or take of room, for which less is left.
use Rattle.std.specs.Prelude.{ℕ, ◌-◌, List, [], ◌∷◌, nat_lt, if◌then◌else◌, ⊤}
use Rattle.value_core.specs.declared.val.Val.{Val}
use Rattle.value_core.specs.declared.val.Val.TheVariants as value
use Rattle.michelson_code.specs.declared.script.Script.{Script}
use Rattle.michelson_code.specs.declared.why.Why.TheVariants as why
use Rattle.michelson_rules.specs.declared.ask.Ask.{Ask}
use Rattle.michelson_rules.specs.declared.ask.Budget.{Budget}
use Rattle.michelson_rules.specs.declared.ask.Env.{Env}
use Rattle.michelson_rules.specs.World.{World}
use Rattle.michelson_rules.specs.Runs.{Charge, Ending, Failed, Look, Mark, Missed, Return, Run, Take, Turn}
use Rattle.michelson_rules.specs.Rules.{charges, rules}

-- an end with what is left; or a question, with what is left at it, and what comes after its answer
pub data Outcome (A : Type 0) : Type 0 where
  Ended : Ending A → Budget → Outcome A
  Asked : Ask → Budget → Outcome A → Outcome A

-- no operand is missed, whatever is asked on the way
abbrev pub NeverMisses : {A : Type 0} → Outcome A → Type 0
NeverMisses (Ended Missed left) = ⊥
NeverMisses (Ended (Return a beside) left) = ⊤
NeverMisses (Ended (Failed y) left) = ⊤
NeverMisses (Asked a left next) = NeverMisses next

-- so much less gas
abbrev pub less_gas : Budget → ℕ → Budget
less_gas left n = record { gas = left.gas - n; turns = left.turns; room = left.room }

-- so much less room
abbrev pub less_room : Budget → ℕ → Budget
less_room left n = record { gas = left.gas; turns = left.turns; room = left.room - n }

-- a turn less
abbrev pub less_a_turn : Budget → Budget
less_a_turn left = record { gas = left.gas; turns = left.turns - 1; room = left.room }

-- what marks and an end come to
abbrev pub metered : {A : Type 0} → Budget → List Mark → Ending A → Outcome A
metered left [] e = Ended e left
metered left (Charge n ∷ marks) e = if nat_lt left.gas n then Ended (Failed why.OutOfGas) left else metered (less_gas left n) marks e
metered left (Turn ∷ marks) e = metered (less_a_turn left) marks e
metered left (Look a ∷ marks) e = Asked a left (metered left marks e)
metered left (Take n ∷ marks) e = if nat_lt left.room n then Ended (Failed why.TooMuchData) left else metered (less_room left n) marks e

-- what a run comes to
abbrev pub outcome_of : {A : Type 0} → Budget → Run A → Outcome A
outcome_of left r = metered left r.marks r.ending

-- the run of a script on a param and a storage
abbrev pub run_of : Script → Env → World → Budget → Val → Val → Run (List Val)
run_of s env w left param storage = rules charges s env w s.code (value.Pair param storage ∷ []) (record { turns = left.turns; versions = [] })

-- and what it comes to
abbrev pub script_outcome : Script → Env → World → Budget → Val → Val → Outcome (List Val)
script_outcome s env w left param storage = outcome_of left (run_of s env w left param storage)
