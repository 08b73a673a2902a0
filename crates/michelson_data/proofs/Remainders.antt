-- Quotients whose remainders aren't below 0.
use Rattle.std.proofs.Common.{◌≡◌, ℕ, zero, suc, ◌+◌, ◌-◌, ◌*◌, ◌/◌, ◌%◌, ◌<◌, ℤ, ◌*ℤ◌, ◌+ℤ◌, refl, sym, ap, subst, ◌∙◌, arith}
use Rattle.std.specs.Prelude.{pos, negsuc, neg_ℤ, unsigned_abs}
use Rattle.std.specs.Int.{int_div_euclid, int_rem_euclid}
use Rattle.std.proofs.Math.Nat.{div-eq_of_lt, mod-add-div', mod-eq_of_lt, mod-lt}
use Rattle.std.proofs.lemmas.Nat.{div-mul-add, mod-mul-add}

pub small_remainder : (a b : ℤ) → (b ≡ pos 0 → ⊥) → (r : ℕ) × (int_rem_euclid a b ≡ pos r) × (r < unsigned_abs b)
small_remainder (pos a) (pos zero) other = absurd (other refl)
small_remainder (pos a) (pos (suc b)) other = (a % suc b, refl, mod-lt a (omega arith))
small_remainder (pos a) (negsuc b) other = (a % suc b, refl, mod-lt a (omega arith))
small_remainder (negsuc a) (pos zero) other = absurd (other refl)
small_remainder (negsuc a) (pos (suc b)) other = (suc b - 1 - a % suc b, refl, omega arith)
small_remainder (negsuc a) (negsuc b) other = (suc b - 1 - a % suc b, refl, omega arith)

turned_product : (q b : ℕ) → neg_ℤ (pos q) *ℤ negsuc b ≡ pos (q * suc b)
turned_product zero b = let nothing : 0 * suc b ≡ 0 = omega arith in ap (λ n. neg_ℤ (pos n)) nothing ∙ sym (ap pos nothing)
turned_product (suc q) b = refl

below_zero : (m r a : ℕ) → m ≡ r + suc a → neg_ℤ (pos m) +ℤ pos r ≡ negsuc a
below_zero zero r a e = absurd (omega arith)
below_zero (suc m) r a e = grind arith

pub whole_number : (a b : ℤ) → (b ≡ pos 0 → ⊥) → a ≡ int_div_euclid a b *ℤ b +ℤ int_rem_euclid a b
whole_number (pos a) (pos zero) other = absurd (other refl)
whole_number (pos a) (pos (suc b)) other = ap pos (let e = mod-add-div' a (suc b) in omega arith)
whole_number (pos a) (negsuc b) other = ap pos (let e = mod-add-div' a (suc b) in omega arith) ∙ ap (λ p. p +ℤ pos (a % suc b)) (sym (turned_product (a / suc b) b))
whole_number (negsuc a) (pos zero) other = absurd (other refl)
whole_number (negsuc a) (pos (suc b)) other = let e = mod-add-div' a (suc b) in let small = mod-lt a {m = suc b} (omega arith) in
    sym (below_zero (suc (a / suc b) * suc b) (suc b - 1 - a % suc b) a (grind arith))
whole_number (negsuc a) (negsuc b) other = let e = mod-add-div' a (suc b) in let small = mod-lt a {m = suc b} (omega arith) in
    sym (below_zero (suc (a / suc b) * suc b) (suc b - 1 - a % suc b) a (grind arith))

pub amounts : (x y : ℕ) → 0 < y → (x ≡ x / y * y + x % y) × (x % y < y)
amounts x y some = let e = mod-add-div' x y in (omega arith, mod-lt x some)

-- a product below 0 and a remainder
below_product : (k n r : ℕ) → r < suc n → neg_ℤ (pos (suc k * suc n)) +ℤ pos r ≡ negsuc (k * suc n + (suc n - 1 - r))
below_product k n r small = below_zero (suc k * suc n) r (k * suc n + (suc n - 1 - r)) (grind arith)

-- what the quotient and the remainder of that number are
turned_quotient : (k n r : ℕ) → r < suc n → k ≡ (k * suc n + (suc n - 1 - r)) / suc n
turned_quotient k n r small = sym (div-mul-add k (suc n) (suc n - 1 - r) (omega arith))

turned_remainder : (k n r : ℕ) → r < suc n → r ≡ suc n - 1 - (k * suc n + (suc n - 1 - r)) % suc n
turned_remainder k n r small = let there : r ≡ suc n - 1 - (suc n - 1 - r) = omega arith in
    there ∙ ap (λ m. suc n - 1 - m) (sym (mod-mul-add k (suc n) (suc n - 1 - r) (omega arith)))

-- no product and a remainder
no_product : (n r : ℕ) → neg_ℤ (pos (0 * suc n)) +ℤ pos r ≡ pos r
no_product n r = let nothing : 0 * suc n ≡ 0 = omega arith in let same : 0 + r ≡ r = omega arith in
    ap (λ p. neg_ℤ (pos p) +ℤ pos r) nothing ∙ ap pos same

of_sum : (q b : ℤ) (r : ℕ) → r < unsigned_abs b → (q ≡ int_div_euclid (q *ℤ b +ℤ pos r) b) × (pos r ≡ int_rem_euclid (q *ℤ b +ℤ pos r) b)
of_sum q (pos zero) r small = absurd (omega arith)
of_sum (pos k) (pos (suc n)) r small = (ap pos (sym (div-mul-add k (suc n) r small)), ap pos (sym (mod-mul-add k (suc n) r small)))
of_sum (pos zero) (negsuc n) r small = let is = sym (no_product n r) in (
  ap (λ m. neg_ℤ (pos m)) (sym (div-eq_of_lt small)) ∙ ap (λ a. int_div_euclid a (negsuc n)) is,
  ap pos (sym (mod-eq_of_lt small)) ∙ ap (λ a. int_rem_euclid a (negsuc n)) is,
)
of_sum (pos (suc k)) (negsuc n) r small = let is = sym (below_product k n r small) in (
  ap (λ m. pos (suc m)) (turned_quotient k n r small) ∙ ap (λ a. int_div_euclid a (negsuc n)) is,
  ap pos (turned_remainder k n r small) ∙ ap (λ a. int_rem_euclid a (negsuc n)) is,
)
of_sum (negsuc k) (pos (suc n)) r small = let is = sym (below_product k n r small) in (
  ap negsuc (turned_quotient k n r small) ∙ ap (λ a. int_div_euclid a (pos (suc n))) is,
  ap pos (turned_remainder k n r small) ∙ ap (λ a. int_rem_euclid a (pos (suc n))) is,
)
of_sum (negsuc k) (negsuc n) r small = (ap (λ m. neg_ℤ (pos m)) (sym (div-mul-add (suc k) (suc n) r small)), ap pos (sym (mod-mul-add (suc k) (suc n) r small)))

pub one_pair : (a b q : ℤ) (r : ℕ) → a ≡ q *ℤ b +ℤ pos r → r < unsigned_abs b → (q ≡ int_div_euclid a b) × (pos r ≡ int_rem_euclid a b)
one_pair a b q r sum small = subst (λ s. (q ≡ int_div_euclid s b) × (pos r ≡ int_rem_euclid s b)) (sym sum) (of_sum q b r small)

pub one_of_amounts : (x y q r : ℕ) → x ≡ q * y + r → r < y → (q ≡ x / y) × (r ≡ x % y)
one_of_amounts x y q r sum small = (sym (ap (λ s. s / y) sum ∙ div-mul-add q y r small), sym (ap (λ s. s % y) sum ∙ mod-mul-add q y r small))
