-- Names, and lists in which they are looked up.
use Rattle.std.specs.List.{list_any}
use Rattle.std.specs.Prelude.{Bool, List, None, Option, Some, [], if◌then◌else◌, not, suc, true, ℕ, ◌&&◌, ◌∷◌}
use Rattle.std.specs.Str.{bytes_eq}

-- the first, or else the other
abbrev pub first_of : {A : Type 0} → Option A → Option A → Option A
first_of None other = other
first_of (Some a) other = Some a

-- a list of names, the latest first
abbrev pub Named : Type 0 → Type 0
Named A = List (List ℕ × A)

-- what the latest of the name stands for
abbrev pub look : {A : Type 0} → List ℕ → Named A → Option A
look word [] = None
look word (e ∷ es) = if bytes_eq word e.0 then Some e.1 else look word es

-- one place further
abbrev pub further : {A : Type 0} → Option (ℕ × A) → Option (ℕ × A)
further None = None
further (Some (place, a)) = Some (suc place, a)

-- the place of the first of the name, and what it stands for
abbrev pub place_of : {A : Type 0} → List ℕ → Named A → Option (ℕ × A)
place_of word [] = None
place_of word (e ∷ es) = if bytes_eq word e.0 then Some (0, e.1) else further (place_of word es)

-- one of the words is the name
abbrev pub is_among : List ℕ → List (List ℕ) → Bool
is_among word words = list_any (bytes_eq word) words

-- no word stands twice
abbrev pub are_distinct : List (List ℕ) → Bool
are_distinct [] = true
are_distinct (word ∷ words) = not (is_among word words) && are_distinct words
