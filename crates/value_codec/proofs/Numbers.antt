-- Numbers of 128 bits that are no -2^127.
use Rattle.std.proofs.Common.{◌≡◌, ℕ, ℤ, pos, negsuc, List, [], ◌∷◌, ◌++◌, FitsSigned, to_z, of_z, Result, Ok, Err, OnOk, append_assoc, arith, ap, ◌∙◌}
use Rattle.std.specs.Int.{w128}
use Rattle.std.proofs.lemmas.Int.{ints, to_z-of_z}
use Rattle.value_core.specs.Leaves.{IsNumber}
use Rattle.value_codec.specs.Spelling.{signed_word}

pub number_fits : (z : ℤ) → IsNumber z → FitsSigned w128 z
number_fits (pos n) h = record { sfits = omega (arith, ints, h.1) }
number_fits (negsuc n) h = record { sfits = omega (arith, ints, h.0) }

passed : (m n : ℤ) → m ≡ n → IsNumber n → signed_word (to_z w128 (of_z w128 m)) ≡ signed_word n
passed m n is number = ap (λ (z : ℤ). signed_word (to_z w128 (of_z w128 z))) is ∙ ap signed_word (to_z-of_z w128 n (number_fits n number))

-- what is added behind a tag
pub added_number : {E : Type 0} (r : Result (Unit {0}) E) (old mid new : List ℕ) (tag : ℕ) (m n : ℤ) → mid ≡ old ++ tag ∷ [] → m ≡ n → IsNumber n →
    OnOk r (new ≡ mid ++ signed_word (to_z w128 (of_z w128 m))) → OnOk r (new ≡ old ++ tag ∷ signed_word n)
added_number (Ok u) old mid new tag m n first is number h =
    h ∙ (λ i. first i ++ passed m n is number i) ∙ append_assoc old (tag ∷ []) (signed_word n)
added_number (Err e) old mid new tag m n first is number h = tt
