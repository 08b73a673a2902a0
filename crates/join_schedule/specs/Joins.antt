-- Lists of joins, and which operation is before which.
use Rattle.std.specs.Prelude.{ℕ, ◌<◌, List, [], length, slice_index, slice_index_or, EachIndex}
use Rattle.std.specs.List.{Contains}
use Rattle.std.specs.List.Sorted.{IsStrictlyIncreasing}

-- what operation j is joined to
abbrev pub joins_of : List (List ℕ) → ℕ → List ℕ
joins_of joins j = slice_index_or joins j []

-- numbers that strictly ascend, each of an operation before j
pub record IsJoinList (j : ℕ) (list : List ℕ) : Type 0 where
  pub ascends : IsStrictlyIncreasing list
  pub earlier : EachIndex list (λ k. slice_index list k < j)

-- no operation has a bad list
abbrev pub AreJoins : List (List ℕ) → Type 0
AreJoins joins = (j : ℕ) → j < length joins → IsJoinList j (joins_of joins j)

-- j has a bad list, and none before it has
pub record IsFirstBad (joins : List (List ℕ)) (j : ℕ) : Type 0 where
  pub within : j < length joins
  pub bad : ¬ IsJoinList j (joins_of joins j)
  pub least : (k : ℕ) → k < j → IsJoinList k (joins_of joins k)

-- i is before j: j is joined to i, or to an operation that i is before
pub data IsBefore (joins : List (List ℕ)) (i : ℕ) : ℕ → Type 0 where
  Joined : (j : ℕ) → Contains (joins_of joins j) i → IsBefore joins i j
  Through : (k j : ℕ) → IsBefore joins i k → Contains (joins_of joins j) k → IsBefore joins i j
