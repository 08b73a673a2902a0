-- The order of bytes ties equal bytes alone.
use Rattle.std.specs.Prelude.{◌≡◌, ℕ, List, nat_eq}
use Rattle.std.specs.Ordering.{eq_by_cmp, nat_cmp}
use Rattle.std.specs.Cmp.{unsigned_tied}
use Rattle.std.specs.Cmp.Lexicographic.{lists_ties, pointwise, slice_cmp}
use Rattle.std.proofs.Common.{sym}

-- bytes that are equal one by one are those that tie
pub bytes_tie : (a b : List ℕ) → pointwise nat_eq a b ≡ eq_by_cmp (slice_cmp nat_cmp) a b
bytes_tie = lists_ties nat_cmp (λ x y. sym (unsigned_tied x y))
