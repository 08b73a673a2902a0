-- What marks spend of gas, turns and room, and a run whose charges nobody counts.
use Rattle.std.specs.Prelude.{◌≡◌, ◌≤◌, ℕ, ◌+◌, ◌*◌, List, [], ◌∷◌}
use Rattle.michelson_rules.specs.Runs.{Charge, Ending, Failed, Look, Mark, Missed, Return, Run, Take, Turn}

-- the gas that is charged
abbrev pub gas_in : List Mark → ℕ
gas_in [] = 0
gas_in (Charge n ∷ marks) = n + gas_in marks
gas_in (Turn ∷ marks) = gas_in marks
gas_in (Look a ∷ marks) = gas_in marks
gas_in (Take n ∷ marks) = gas_in marks

-- the bodies that start
abbrev pub turns_in : List Mark → ℕ
turns_in [] = 0
turns_in (Charge n ∷ marks) = turns_in marks
turns_in (Turn ∷ marks) = 1 + turns_in marks
turns_in (Look a ∷ marks) = turns_in marks
turns_in (Take n ∷ marks) = turns_in marks

-- the room that is taken
abbrev pub room_in : List Mark → ℕ
room_in [] = 0
room_in (Charge n ∷ marks) = room_in marks
room_in (Turn ∷ marks) = room_in marks
room_in (Look a ∷ marks) = room_in marks
room_in (Take n ∷ marks) = n + room_in marks

-- the marks without the charges
abbrev pub uncharged : List Mark → List Mark
uncharged [] = []
uncharged (Charge n ∷ marks) = uncharged marks
uncharged (Turn ∷ marks) = Turn ∷ uncharged marks
uncharged (Look a ∷ marks) = Look a ∷ uncharged marks
uncharged (Take n ∷ marks) = Take n ∷ uncharged marks

module _ {A : Type 0} where
  -- a run without its charges
  abbrev pub hushed : Run A → Run A
  hushed r = record { marks = uncharged r.marks; ending = r.ending }

  -- of so many turns some are taken, and where a value is returned the others are left
  abbrev pub TurnsAddUp : ℕ → ℕ → Ending A → Type 0
  TurnsAddUp turns taken (Return a beside) = taken + beside.turns ≡ turns
  TurnsAddUp turns taken (Failed y) = taken ≤ turns
  TurnsAddUp turns taken Missed = taken ≤ turns

  -- a run that has so many turns takes no other
  abbrev pub KeepsTurns : ℕ → Run A → Type 0
  KeepsTurns turns r = TurnsAddUp turns (turns_in r.marks) r.ending

  -- a run costs at most this, and this once more for each turn that it takes
  abbrev pub CostsAtMost : ℕ → Run A → Type 0
  CostsAtMost n r = gas_in r.marks ≤ n * (turns_in r.marks + 1)

-- what is charged for a cost is no more than it, and takes no turn
pub record IsFair (price : ℕ → List Mark) : Type 0 where
  pub gas : (n : ℕ) → gas_in (price n) ≤ n
  pub turns : (n : ℕ) → turns_in (price n) ≡ 0
