-- Faults, and lists of them.
use Rattle.std.specs.Prelude.{List, [], if◌then◌else◌, map, ℕ, ◌++◌, ◌∷◌, ◌≡◌, ◌⊎◌}
use Rattle.ligo_typer.specs.declared.fault.LigoFault.{LigoFault}
use Rattle.ligo_typer.specs.declared.fault.LigoKind.{LigoKind}
use Rattle.ligo_typer.specs.declared.fault.LigoKind.TheVariants as kind
use Rattle.ligo_typer.specs.Names.{Named, is_among}

-- all that may be told
abbrev pub Faults : Type 0
Faults = List LigoFault

abbrev pub fault : LigoKind → ℕ → LigoFault
fault k at = record { at = at; kind = k }

-- all of these kinds at one place
abbrev pub faults_at : ℕ → List LigoKind → Faults
faults_at at kinds = map (λ k. fault k at) kinds

-- one of the items
abbrev pub IsOneOf : {A : Type 0} → List A → A → Type 0
IsOneOf [] a = ⊥
IsOneOf (b ∷ bs) a = (a ≡ b) ⊎ IsOneOf bs a

-- of several lists
abbrev pub all_of : List Faults → Faults
all_of [] = []
all_of (fs ∷ more) = fs ++ all_of more

-- of each item
abbrev pub of_each : {A : Type 0} → (A → Faults) → List A → Faults
of_each f items = all_of (map f items)

-- the first, or where there are none the others
abbrev pub or_else : Faults → Faults → Faults
or_else [] others = others
or_else (f ∷ fs) others = f ∷ fs

-- names with their places: one that stands before is told at its place
abbrev pub repeated_behind : LigoKind → List (List ℕ) → Named ℕ → Faults
repeated_behind k before [] = []
repeated_behind k before (e ∷ es) = (if is_among e.0 before then fault k e.1 ∷ [] else []) ++ repeated_behind k (e.0 ∷ before) es

abbrev pub repeated_as : LigoKind → Named ℕ → Faults
repeated_as k = repeated_behind k []

abbrev pub repeated : Named ℕ → Faults
repeated = repeated_as kind.Twice
