-- A name's bytes, filled up with zeros.
use Rattle.std.proofs.Common.{◌≡◌, ℕ, ◌-◌, List, length, take, drop, ◌++◌, ap, replicate}
use Rattle.std.proofs.Math.Seq.{take-append_seam}
use Rattle.std.proofs.lemmas.List.{drop-replicate}
use Rattle.value_core.specs.Padding.{padded}

-- they begin with the name
pub take_padded : (l : List ℕ) → take (length l) (padded l) ≡ l
take_padded l = take-append_seam l (replicate (31 - length l) 0)

-- they are written over zeros
pub zeros_after : (l : List ℕ) → l ++ drop (length l) (replicate 31 0) ≡ padded l
zeros_after l = ap (λ zeros. l ++ zeros) (drop-replicate (length l) 31 0)
