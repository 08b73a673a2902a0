-- What is left at the end of a run, and what a run comes to with more, or within a longer run.
use Rattle.std.specs.Prelude.{◌≤◌, ℕ, ◌+◌, ◌-◌, List}
use Rattle.michelson_rules.specs.declared.ask.Budget.{Budget}
use Rattle.michelson_rules.specs.Metered.{Asked, Ended, Outcome}
use Rattle.michelson_rules.specs.Runs.{Beside, Ending, Failed, Mark, Missed, Return}
use Rattle.michelson_rules.specs.Spent.{gas_in, room_in, turns_in}

-- what is left after all that the marks spend
abbrev pub after_marks : Budget → List Mark → Budget
after_marks left marks =
    record { gas = left.gas - gas_in marks; turns = left.turns - turns_in marks; room = left.room - room_in marks }

-- gas and room are there for all marks
pub record Lasts (left : Budget) (marks : List Mark) : Type 0 where
  pub gas : gas_in marks ≤ left.gas
  pub room : room_in marks ≤ left.room

-- so much more gas
abbrev pub more_gas : ℕ → Budget → Budget
more_gas n left = record { gas = left.gas + n; turns = left.turns; room = left.room }

-- so much more room
abbrev pub more_room : ℕ → Budget → Budget
more_room n left = record { gas = left.gas; turns = left.turns; room = left.room + n }

module _ {A : Type 0} where
  -- the end, after all questions
  abbrev pub end_of : Outcome A → Ending A
  end_of (Ended e left) = e
  end_of (Asked a left next) = end_of next

  -- what is left at the end
  abbrev pub left_of : Outcome A → Budget
  left_of (Ended e left) = left
  left_of (Asked a left next) = left_of next

  -- the same with other budgets, at the questions and at the end
  abbrev pub with_left : (Budget → Budget) → Outcome A → Outcome A
  with_left f (Ended e left) = Ended e (f left)
  with_left f (Asked a left next) = Asked a (f left) (with_left f next)

module _ {A B : Type 0} where
  -- what a run comes to, and then the next one on what it returns and what it leaves
  abbrev pub ended_then : Ending A → Budget → (A → Beside → Budget → Outcome B) → Outcome B
  ended_then (Return a beside) left next = next a beside left
  ended_then (Failed y) left next = Ended (Failed y) left
  ended_then Missed left next = Ended Missed left

  -- the same after the questions
  abbrev pub and_then : Outcome A → (A → Beside → Budget → Outcome B) → Outcome B
  and_then (Ended e left) next = ended_then e left next
  and_then (Asked a left more) next = Asked a left (and_then more next)
