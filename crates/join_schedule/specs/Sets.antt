-- The operations before an operation, as a row of marks.
use Rattle.std.specs.Prelude.{◌≡◌, ℕ, ◌<◌, ◌↔◌, List, [], length, map, slice_index_or, Bool, false, ◌||◌, ◌==◌, IsTrue}
use Rattle.std.specs.Global.{Vec}
use Rattle.join_schedule.specs.Joins.{IsBefore}

-- the marks that rows hold
abbrev pub marks : List (Vec Bool) → List (List Bool)
marks rows = map (λ (row : Vec Bool). row.items) rows

-- whether operation i is marked
abbrev pub is_marked : List Bool → ℕ → Bool
is_marked row i = slice_index_or row i false

-- whether i is k, or marked in the row of k
abbrev pub is_through : List (List Bool) → ℕ → ℕ → Bool
is_through rows i k = (k == i) || is_marked (slice_index_or rows k []) i

-- each row has a place for each operation before its own
abbrev pub AreStairs : List (List Bool) → Type 0
AreStairs rows = (k : ℕ) → k < length rows → length (slice_index_or rows k []) ≡ k

-- the first n rows mark what is before each of the first n operations
abbrev pub AreRows : List (List ℕ) → ℕ → List (List Bool) → Type 0
AreRows joins n rows = (i j : ℕ) → j < n → IsTrue (is_marked (slice_index_or rows j []) i) ↔ IsBefore joins i j
