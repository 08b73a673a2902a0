-- Runs: the marks that are made, one after another, and the end; of whatever is returned.
use Rattle.std.specs.Prelude.{ℕ, zero, suc, List, [], ◌∷◌, ◌++◌, Option, get_or}
use Rattle.value_core.specs.declared.val.Val.{Val}
use Rattle.michelson_code.specs.declared.why.Why.{Why}
use Rattle.michelson_code.specs.declared.why.Why.TheVariants as why
use Rattle.michelson_rules.specs.declared.ask.Ask.{Ask}

-- a cost is charged; a body starts; the world is asked; room for so many leaves is taken
pub data Mark : Type 0 where
  Charge : ℕ → Mark
  Turn : Mark
  Look : Ask → Mark
  Take : ℕ → Mark

-- what a version of a big map has at its keys beside what the ledger has there: a value, or none; ascending by key
abbrev pub Changes : Type 0
Changes = List (Val × Option Val)

-- what a run goes on with, beside its values: the turns left, and the changes of each version from the first on
pub record Beside : Type 0 where
  pub turns : ℕ
  pub versions : List Changes

-- the changes of a version; version 0 has none
abbrev pub changes_of : ℕ → List Changes → Changes
changes_of zero versions = []
changes_of (suc n) versions = get_or versions n []

-- a value is returned; the run fails; or an operand isn't there, which no typed code meets
pub data Ending (A : Type 0) : Type 0 where
  Return : A → Beside → Ending A
  Failed : Why → Ending A
  Missed : Ending A

-- the marks, and the end
pub record Run (A : Type 0) : Type 0 where
  pub marks : List Mark
  pub ending : Ending A

module _ {A : Type 0} where
  -- the end alone
  abbrev pub ends : Ending A → Run A
  ends e = record { marks = []; ending = e }

  -- marks before a run
  abbrev pub prefixed : List Mark → Run A → Run A
  prefixed ms r = record { marks = ms ++ r.marks; ending = r.ending }

  -- a mark before a run
  abbrev pub marked : Mark → Run A → Run A
  marked m r = prefixed (m ∷ []) r

  -- a body that starts with so many turns left takes one; with none the run fails
  abbrev pub with_turns : ℕ → List Changes → (Beside → Run A) → Run A
  with_turns zero versions body = ends (Failed why.OutOfTurns)
  with_turns (suc turns) versions body = marked Turn (body (record { turns = turns; versions = versions }))

  -- a body starts for a turn
  abbrev pub in_a_turn : (Beside → Run A) → Beside → Run A
  in_a_turn body beside = with_turns beside.turns beside.versions body

module _ {A B : Type 0} where
  -- what is returned is gone on with
  abbrev pub go_on : Ending A → (A → Beside → Run B) → Run B
  go_on (Return a beside) next = next a beside
  go_on (Failed y) next = ends (Failed y)
  go_on Missed next = ends Missed

  -- one run, and the next on what it returns
  abbrev pub then_do : Run A → (A → Beside → Run B) → Run B
  then_do r next = prefixed r.marks (go_on r.ending next)
