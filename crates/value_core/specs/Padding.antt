-- The 31 bytes in which a name is held, and how they give the name back.
use Rattle.std.proofs.Common.{IsTrue, ◌≡◌, ℕ, ◌-◌, ◌≤◌, List, length, take, ◌++◌, replicate, ap, arith, length-append}
use Rattle.value_core.specs.Leaves.{is_name}
use Rattle.std.proofs.lemmas.List.{length-replicate, length-take}

-- the bytes, filled up to 31 with zeros
abbrev pub padded : List ℕ → List ℕ
padded bytes = bytes ++ replicate (31 - length bytes) 0

-- the first n bytes are a name, and the others are zeros
abbrev pub IsHeld : List ℕ → ℕ → Type 0
IsHeld bytes n = (n ≤ 31) × (bytes ≡ padded (take n bytes)) × IsTrue (is_name (take n bytes))

length-padded : (l : List ℕ) → 31 ≤ length (padded l)
length-padded l = let zeros : List ℕ = replicate (31 - length l) 0 in
    omega (arith, length-append l zeros, length-replicate {A = ℕ} (31 - length l) 0)

length_of : (n : ℕ) (bytes : List ℕ) → n ≤ 31 → bytes ≡ padded (take n bytes) → length (take n bytes) ≡ n
length_of n bytes small is = grind (arith, length-take n bytes, ap length is, length-padded (take n bytes))

-- the first bytes of a name that is held so are as many as they should be
pub length-held : (bytes : List ℕ) (n : ℕ) → IsHeld bytes n → length (take n bytes) ≡ n
length-held bytes n held = length_of n bytes held.0 held.1
