-- What callers see of a text in the making.
use Rattle.std.specs.Prelude.{ℕ, List}

-- the bytes that stood before, and those that were added
pub record Written : Type 0 where
  pub before : List ℕ
  pub added : List ℕ
