-- Where the keys above a given one begin among entries whose keys ascend.
use Rattle.std.specs.Prelude.{ℕ, ◌<◌, ◌≤◌, List, length, Option, slice_index_or}
use Rattle.std.specs.declared.cmp.Ordering.{Ordering}
use Rattle.cell_blocks.specs.Successors.{IsAbove}

-- the keys from place i on are those above the given one
pub record IsCut {K X : Type 0} (R : K → K → Ordering) (es : List (K × X)) (given : Option K) (i : ℕ) : Type 0 where
  pub below : (k : ℕ) (d : K × X) → k < i → k < length es → ¬ IsAbove R given (slice_index_or es k d).0
  pub above : (k : ℕ) (d : K × X) → i ≤ k → k < length es → IsAbove R given (slice_index_or es k d).0
