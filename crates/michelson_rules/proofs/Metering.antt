-- What marks and an end come to: within a longer run, with enough gas and room, and with more.
use Rattle.std.proofs.Common.{◌≡◌, Bool, true, false, cond, List, [], ◌∷◌, ◌++◌, refl, ap}
use Rattle.std.specs.Prelude.{nat_lt}
use Rattle.michelson_code.specs.declared.why.Why.{Why}
use Rattle.michelson_code.specs.declared.why.Why.TheVariants as why
use Rattle.michelson_rules.specs.declared.ask.Budget.{Budget}
use Rattle.michelson_rules.specs.Lasting.{and_then}
use Rattle.michelson_rules.specs.Metered.{Asked, Ended, Outcome, less_a_turn, less_gas, less_room, metered, outcome_of}
use Rattle.michelson_rules.specs.Runs.{Beside, Charge, Ending, Failed, Look, Mark, Missed, Return, Run, Take, Turn, go_on, then_do}

-- ---- a run, and then another

module _ {A B : Type 0} (next : A → Beside → Run B) where
  abbrev onward : A → Beside → Budget → Outcome B
  onward a beside left = outcome_of left (next a beside)

  cut_alike : (b : Bool) (y : Why) (left : Budget) (x : Outcome A) (x' : Outcome B) → x' ≡ and_then x onward →
      cond b (Ended (Failed y) left) x' ≡ and_then (cond b (Ended (Failed y) left) x) onward
  cut_alike true y left x x' p = refl
  cut_alike false y left x x' p = p

  goes_on : (left : Budget) (marks : List Mark) (e : Ending A) →
      metered left (marks ++ (go_on e next).marks) (go_on e next).ending ≡ and_then (metered left marks e) onward
  goes_on left [] (Return a beside) = refl
  goes_on left [] (Failed y) = refl
  goes_on left [] Missed = refl
  goes_on left (Charge n ∷ marks) e = cut_alike (nat_lt left.gas n) why.OutOfGas left _ _ (goes_on (less_gas left n) marks e)
  goes_on left (Turn ∷ marks) e = goes_on (less_a_turn left) marks e
  goes_on left (Look a ∷ marks) e = ap (Asked a left) (goes_on left marks e)
  goes_on left (Take n ∷ marks) e = cut_alike (nat_lt left.room n) why.TooMuchData left _ _ (goes_on (less_room left n) marks e)

  pub outcome_goes_on : (left : Budget) (r : Run A) → outcome_of left (then_do r next) ≡ and_then (outcome_of left r) onward
  outcome_goes_on left r = goes_on left r.marks r.ending
