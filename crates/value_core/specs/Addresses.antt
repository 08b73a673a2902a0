-- What `Address::from_bytes` answers.
use Rattle.std.specs.Prelude.{◌≡◌, ◌≢◌, ◌≤◌, ◌<◌, ℕ, List, IsTrue, length, slice_index, Result, Ok, Err}
use Rattle.value_core.specs.Lawful.{are_bytes}
use Rattle.value_core.specs.declared.address.AddressFault.{AddressFault}
use Rattle.value_core.specs.declared.address.AddressFault.TheVariants.{BadLength, BadFirst}

-- the answers exclude one another, so each comes exactly where it may
abbrev pub IsAnswer : List ℕ → Result (List ℕ) AddressFault → Type 0
IsAnswer b (Ok a) = (length b ≡ 22) × (slice_index b 0 ≤ 1) × (a ≡ b) × IsTrue (are_bytes b)
IsAnswer b (Err (BadLength n)) = (length b ≢ 22) × (n ≡ length b)
IsAnswer b (Err (BadFirst first)) = (length b ≡ 22) × (1 < first) × (first ≡ slice_index b 0)
