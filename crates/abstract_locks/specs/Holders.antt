-- Who holds one cell, what a ticket asks for, and how it is answered.
use Rattle.std.specs.Prelude.{◌≡◌, ◌≢◌, ℕ, ◌≤◌, true, false, Option, Some}
use Rattle.cell_names.specs.declared.mode.Mode.{Mode}
use Rattle.cell_names.specs.Footprints.{further, modes_conflict}
use Rattle.abstract_locks.specs.declared.asked.Asked.{Asked}
use Rattle.abstract_locks.specs.declared.asked.Asked.TheVariants.{Granted, Held}

-- the mode in which each ticket holds a cell, where it holds it
abbrev pub Holders : Type 0
Holders = ℕ → Option Mode

-- no two tickets hold the cell in modes that conflict
abbrev pub AreApart : Holders → Type 0
AreApart holders = (i j : ℕ) → i ≢ j → modes_conflict (holders i) (holders j) ≡ false

-- what a ticket asks for: the join of what it holds with one more mode
abbrev pub asked : Holders → ℕ → Mode → Mode
asked holders ticket m = further (holders ticket) m

-- another ticket holds the cell in a mode that conflicts with what is asked for
pub record Stops (holders : Holders) (ticket : ℕ) (m : Mode) (other : ℕ) : Type 0 where
  pub apart : other ≢ ticket
  pub conflict : modes_conflict (holders other) (Some (asked holders ticket m)) ≡ true

-- no other ticket does
abbrev pub IsFree : Holders → ℕ → Mode → Type 0
IsFree holders ticket m = (other : ℕ) → ¬ Stops holders ticket m other

-- this is the least ticket that does, and its mode
pub record IsLeastStop (holders : Holders) (ticket : ℕ) (m : Mode) (by : ℕ) (mode : Mode) : Type 0 where
  pub stops : Stops holders ticket m by
  pub holds : holders by ≡ Some mode
  pub least : (other : ℕ) → Stops holders ticket m other → by ≤ other

-- a free cell is granted, and else the least ticket that holds it against this one is named
abbrev pub Answers : Holders → ℕ → Mode → Asked → Type 0
Answers holders ticket m Granted = IsFree holders ticket m
Answers holders ticket m (Held by mode) = IsLeastStop holders ticket m by mode
