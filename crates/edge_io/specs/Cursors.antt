-- What is seen of bytes that are taken from the front.
use Rattle.std.specs.Prelude.{◌≡◌, ℕ, ◌+◌, ◌<◌, ◌≤◌, List, length, take, drop, Option, Some, None}

-- the bytes, and how many of them are taken
pub record Reach : Type 0 where
  pub bytes : List ℕ
  pub at : ℕ

-- what isn't taken yet
abbrev pub left : Reach → List ℕ
left c = drop c.at c.bytes

-- n more bytes are taken
abbrev pub moved : ℕ → Reach → Reach
moved n c = record { bytes = c.bytes; at = c.at + n }

-- the next n bytes, seen by view, are taken; where fewer are left none is, and nothing moves
abbrev pub TakesFront : {A : Type 0} → ℕ → (List ℕ → A) → Reach → Option A → Reach → Type 0
TakesFront n view old None new = (length (left old) < n) × (new ≡ old)
TakesFront n view old (Some a) new = (n ≤ length (left old)) × (a ≡ view (take n (left old))) × (new ≡ moved n old)
