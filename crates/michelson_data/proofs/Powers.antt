-- Powers of 2: a number times a large one is out of range, and a number through a large one is 0.
use Rattle.std.proofs.Common.{◌≡◌, ℕ, zero, suc, ◌*◌, ◌/◌, ◌^◌, ◌<◌, ◌≤◌, ℤ, ◌*ℤ◌, refl, arith}
use Rattle.std.specs.Prelude.{pos, negsuc, neg_ℤ, IsTrue}
use Rattle.std.proofs.Math.Nat.{div-lt_iff_lt-mul}
use Rattle.std.proofs.Math.Pow.{pow_mono}
use Rattle.std.proofs.lemmas.Nat.{mul-le, pow_below}
use Rattle.std.proofs.lemmas.Bool.{and_parts}
use Rattle.value_core.specs.Lawful.{is_number}

-- nothing is left of a number through a larger one
pub below_divisor : (n p : ℕ) → n < p → n / p ≡ 0
below_divisor n p below = let least : n / p < 1 = (div-lt_iff_lt-mul {k = p} {x = n} {y = 1} (omega arith)).1 (omega arith) in omega arith

-- nor of 128 bits through 2 to the 128 or more
pub through_much : (n k : ℕ) → n < 2 ^ 128 → 128 ≤ k → n / 2 ^ k ≡ 0
through_much n k below much = let large : 2 ^ 128 ≤ 2 ^ k = pow_mono much in below_divisor n (2 ^ k) (omega arith)

-- powers below 2 to the 127
pub small_power : (k : ℕ) → k < 127 → 2 ^ k < 2 ^ 127
small_power k below = pow_below k 127 below

-- a number from 1 on times 2 to the 127 or more
times_much : (m k : ℕ) → 1 ≤ m → 127 ≤ k → 2 ^ 127 ≤ m * 2 ^ k
times_much m k some much = let large : 2 ^ 127 ≤ 2 ^ k = pow_mono much in
    let product : 1 * 2 ^ 127 ≤ m * 2 ^ k = mul-le 1 (2 ^ 127) m (2 ^ k) some large in omega arith

-- a number that isn't above 0 is one only down to -(2^127 - 1)
below_zero : (m : ℕ) → IsTrue (is_number (neg_ℤ (pos m))) → m < 2 ^ 127
below_zero zero number = omega arith
below_zero (suc m) number = grind (arith, and_parts)

above_zero : (m : ℕ) → IsTrue (is_number (pos m)) → m < 2 ^ 127
above_zero m number = grind (arith, and_parts)

-- a number other than 0 times such a power is none
pub too_far : (n : ℤ) (k : ℕ) → (n ≡ pos 0 → ⊥) → 127 ≤ k → IsTrue (is_number (n *ℤ pos (2 ^ k))) → ⊥
too_far (pos zero) k other much number = other refl
too_far (pos (suc m)) k other much number = let far = times_much (suc m) k (omega arith) much in
    let near = above_zero (suc m * 2 ^ k) number in omega arith
too_far (negsuc m) k other much number = let far = times_much (suc m) k (omega arith) much in
    let near = below_zero (suc m * 2 ^ k) number in omega arith
