-- The arms of a match cover each case once.
use Rattle.std.specs.List.{filter, list_any, range_with_len}
use Rattle.std.specs.Prelude.{Bool, List, [], false, length, nat_eq, not, true, ℕ, ◌++◌, ◌==◌, ◌∷◌}
use Rattle.ligo_typer.specs.declared.fault.LigoKind.TheVariants as kind
use Rattle.ligo_typer.specs.Arms.{All, ArmCase, NoCase, One}
use Rattle.ligo_typer.specs.Faults.{Faults, fault}
use Rattle.ligo_typer.specs.Patterns.{bound}

abbrev pub is_left : ℕ → List ℕ → Bool
is_left place left = list_any (nat_eq place) left

-- the rules that are broken, where the match stands there and these cases are left
abbrev pub missing : ℕ → List ℕ → Faults
missing at [] = []
missing at (place ∷ left) = fault kind.NotExhaustive at ∷ []

-- an arm that covers nothing
abbrev pub idle : ℕ → Bool → Faults
idle at true = []
idle at false = fault kind.Redundant at ∷ []

abbrev pub coverage_of : ℕ → List ℕ → List ArmCase → Faults
coverage_of at left [] = missing at left
coverage_of at left (All here ∷ arms) = idle here (not (length left == 0)) ++ coverage_of at [] arms
coverage_of at left (One here place c bound faults ∷ arms) =
    faults ++ (idle here (is_left place left) ++ coverage_of at (filter (λ k. not (nat_eq place k)) left) arms)
coverage_of at left (NoCase faults ∷ arms) = faults ++ coverage_of at left arms

-- of so many cases
abbrev pub coverage : ℕ → ℕ → List ArmCase → Faults
coverage at count arms = coverage_of at (range_with_len 0 count) arms
