-- Where undoing all of a log leads.
use Rattle.std.specs.Prelude.{◌≡◌, ℕ, List, [], ◌∷◌, reverse, All}
use Rattle.cell_names.specs.declared.access.Undo.{Undo}
use Rattle.cell_names.specs.Contents.{Contents}
use Rattle.cell_names.specs.Effects.{undone, flight_undone}
use Rattle.cell_names.specs.Conditions.{Seen, HasAmount, MayChange}

-- undos, one after another, lead from cells and a flight to others, and each finds the amount that it needs
abbrev pub Reaches : List Undo → Contents → ℕ → Contents → ℕ → Type 0
Reaches [] m f n g = (m ≡ n) × (f ≡ g)
Reaches (u ∷ us) m f n g = HasAmount m f u × Reaches us (undone u m) (flight_undone u f) n g

-- undoing the log, the last entry first, leads to these cells and this flight, and each entry may change what it names
pub record LeadsTo (log : List Undo) (seen : Seen) (m : Contents) (f : ℕ) : Type 0 where
  pub ends : Reaches (reverse log) seen.cells seen.flight m f
  pub changes : All (MayChange seen) log

-- undoing the log leads to some cells and some flight
abbrev pub LeadsSomewhere : List Undo → Seen → Type 0
LeadsSomewhere log seen = (m : Contents) × (f : ℕ) × LeadsTo log seen m f

-- a store has these cells and this flight
pub record IsAt (seen : Seen) (m : Contents) (f : ℕ) : Type 0 where
  pub cells : seen.cells ≡ m
  pub flight : seen.flight ≡ f
