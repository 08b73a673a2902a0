-- Numbers as bytes, the highest first, at each width.
use Rattle.std.proofs.Common.{◌≡◌, ℕ, zero, suc, ◌+◌, ◌*◌, ◌/◌, ◌%◌, ◌^◌, ◌<◌, ◌≤◌, List, [], ◌∷◌, length, get_or, refl, sym, ap, subst, ◌∙◌, arith}
use Rattle.std.specs.Int.{Width, w8, w32, w64, w128, byte_len, byte_at, bytes_high_first, from_be_bytes, to_be_bytes}
use Rattle.std.proofs.lemmas.Nat.{be_bytes_4, be_bytes_8, from_be_bytes-to_be_bytes_4, from_be_bytes-to_be_bytes_8, div-mul-add, mod-mul-add, mod_below, div-add-mod', mul-le}
use Rattle.std.proofs.Math.Nat.{pow-suc}
use Rattle.byte_fields.specs.Laws.{IsBytes}

-- what a reader of numbers of a width rests on
pub record IsWide (w : Width) (limit : ℕ) : Type 0 where
  pub len : (n : ℕ) → length (to_be_bytes w n) ≡ byte_len w
  pub back : (bytes : List ℕ) → length bytes ≡ byte_len w → IsBytes bytes → to_be_bytes w (from_be_bytes w bytes) ≡ bytes
  pub again : (n : ℕ) → n < limit → from_be_bytes w (to_be_bytes w n) ≡ n
  pub below : (bytes : List ℕ) → length bytes ≡ byte_len w → IsBytes bytes → from_be_bytes w bytes < limit
  pub fits : (n : ℕ) → IsBytes (to_be_bytes w n)

byte_at-small : (k n : ℕ) → byte_at k n < 256
byte_at-small zero n = mod_below n 256 (omega arith)
byte_at-small (suc k) n = mod_below (n / 256 ^ suc k) 256 (omega arith)

IsBytes-high_first : (k n : ℕ) → IsBytes (bytes_high_first k n)
IsBytes-high_first zero n i = omega arith
IsBytes-high_first (suc k) n zero = byte_at-small k n
IsBytes-high_first (suc k) n (suc i) = IsBytes-high_first k n i

one_byte : (bytes : List ℕ) → length bytes ≡ 1 → IsBytes bytes → (get_or bytes 0 0 % 256) ∷ [] ≡ bytes
one_byte [] len fits = absurd (omega arith)
one_byte (b ∷ []) len fits = let small : b % 256 ≡ b = omega (arith, fits 0) in ap (λ (n : ℕ). n ∷ []) small
one_byte (b ∷ c ∷ bytes) len fits = absurd (omega arith)

pub wide8 : IsWide w8 (2 ^ 8)
wide8 = record {
  len = λ n. refl;
  back = λ bytes len fits. one_byte bytes len fits;
  again = λ n lt. omega arith;
  below = λ bytes len fits. omega (arith, fits 0);
  fits = IsBytes-high_first 1;
}

pub wide32 : IsWide w32 (2 ^ 32)
wide32 = record {
  len = λ n. refl;
  back = λ bytes len fits. be_bytes_4 bytes _ len fits refl;
  again = λ n lt. from_be_bytes-to_be_bytes_4 n lt;
  below = λ bytes len fits. omega (arith, fits 0, fits 1, fits 2, fits 3);
  fits = IsBytes-high_first 4;
}

pub wide64 : IsWide w64 (2 ^ 64)
wide64 = record {
  len = λ n. refl;
  back = λ bytes len fits. be_bytes_8 bytes _ len fits refl;
  again = λ n lt. from_be_bytes-to_be_bytes_8 n lt;
  below = λ bytes len fits. omega (arith, fits 0, fits 1, fits 2, fits 3, fits 4, fits 5, fits 6, fits 7);
  fits = IsBytes-high_first 8;
}

-- ---- sixteen bytes, by the value of any number of bytes

value_of : List ℕ → ℕ
value_of [] = 0
value_of (b ∷ bytes) = b * 256 ^ length bytes + value_of bytes

power_above : (k : ℕ) → 0 < 256 ^ k
power_above zero = omega arith
power_above (suc k) = omega (arith, pow-suc 256 k, power_above k)

value_below : (bytes : List ℕ) → IsBytes bytes → value_of bytes < 256 ^ length bytes
unfolding value_of
value_below [] fits = omega arith
value_below (b ∷ bytes) fits =
    let rest = value_below bytes (λ i. fits (suc i)) in
    let product : (b + 1) * 256 ^ length bytes ≤ 256 * 256 ^ length bytes = mul-le (b + 1) (256 ^ length bytes) 256 (256 ^ length bytes) (omega (arith, fits 0)) (omega arith) in
    omega (arith, pow-suc 256 (length bytes), product, rest)

byte_is : (k n : ℕ) → byte_at k n ≡ n / 256 ^ k % 256
byte_is zero n = omega arith
byte_is (suc k) n = refl

-- the low bytes of a number are those of its value, whatever stands above
low_bytes : (bytes : List ℕ) (m : ℕ) → IsBytes bytes → bytes_high_first (length bytes) (m * 256 ^ length bytes + value_of bytes) ≡ bytes
unfolding value_of
low_bytes [] m fits = refl
low_bytes (b ∷ bytes) m fits =
    let k = length bytes in
    let small : b < 256 = omega (arith, fits 0) in
    let regrouped : m * 256 ^ suc k + (b * 256 ^ k + value_of bytes) ≡ (m * 256 + b) * 256 ^ k + value_of bytes = omega (arith, ap (λ (p : ℕ). m * p) (pow-suc 256 k)) in
    let head : byte_at k ((m * 256 + b) * 256 ^ k + value_of bytes) ≡ b =
    byte_is k _ ∙ ap (λ (n : ℕ). n % 256) (div-mul-add (m * 256 + b) (256 ^ k) (value_of bytes) (value_below bytes (λ i. fits (suc i)))) ∙ mod-mul-add m 256 b small in
    ap (bytes_high_first (suc k)) regrouped ∙ (λ i. head i ∷ low_bytes bytes (m * 256 + b) (λ i. fits (suc i)) i)

length-high_first : (k n : ℕ) → length (bytes_high_first k n) ≡ k
length-high_first zero n = refl
length-high_first (suc k) n = ap suc (length-high_first k n)

value-high_first : (k n : ℕ) → value_of (bytes_high_first k n) ≡ n % 256 ^ k
unfolding value_of
value-high_first zero n = omega arith
value-high_first (suc k) n =
    let power = 256 ^ k in
    let high = n / power in
    let low = n % power in
    let head : byte_at k n ≡ high % 256 = byte_is k n in
    let low_is : low < power = mod_below n power (power_above k) in
    let product : (high % 256 + 1) * power ≤ 256 * power = mul-le (high % 256 + 1) power 256 power (omega (arith, mod_below high 256 (omega arith))) (omega arith) in
    let fits : high % 256 * power + low < power * 256 = omega (arith, product, low_is) in
    let divided : high * power + low ≡ n = div-add-mod' n power in
    let split : high / 256 * 256 + high % 256 ≡ high = div-add-mod' high 256 in
    let whole : n ≡ high / 256 * (power * 256) + (high % 256 * power + low) = omega (arith, ap (λ (h : ℕ). h * power) split) in
    let told : n % (power * 256) ≡ high % 256 * power + low = ap (λ (m : ℕ). m % (power * 256)) whole ∙ mod-mul-add (high / 256) (power * 256) (high % 256 * power + low) fits in
    rw (length-high_first k n, head, value-high_first k n, pow-suc 256 k) (sym told)

from_16 : (bytes : List ℕ) → length bytes ≡ 16 → from_be_bytes w128 bytes ≡ value_of bytes
unfolding value_of
from_16 [] len = absurd (omega arith)
from_16 (a ∷ []) len = absurd (omega arith)
from_16 (a ∷ b ∷ []) len = absurd (omega arith)
from_16 (a ∷ b ∷ c ∷ []) len = absurd (omega arith)
from_16 (a ∷ b ∷ c ∷ d ∷ []) len = absurd (omega arith)
from_16 (a ∷ b ∷ c ∷ d ∷ e ∷ []) len = absurd (omega arith)
from_16 (a ∷ b ∷ c ∷ d ∷ e ∷ f ∷ []) len = absurd (omega arith)
from_16 (a ∷ b ∷ c ∷ d ∷ e ∷ f ∷ g ∷ []) len = absurd (omega arith)
from_16 (a ∷ b ∷ c ∷ d ∷ e ∷ f ∷ g ∷ h ∷ []) len = absurd (omega arith)
from_16 (a ∷ b ∷ c ∷ d ∷ e ∷ f ∷ g ∷ h ∷ i ∷ []) len = absurd (omega arith)
from_16 (a ∷ b ∷ c ∷ d ∷ e ∷ f ∷ g ∷ h ∷ i ∷ j ∷ []) len = absurd (omega arith)
from_16 (a ∷ b ∷ c ∷ d ∷ e ∷ f ∷ g ∷ h ∷ i ∷ j ∷ k ∷ []) len = absurd (omega arith)
from_16 (a ∷ b ∷ c ∷ d ∷ e ∷ f ∷ g ∷ h ∷ i ∷ j ∷ k ∷ l ∷ []) len = absurd (omega arith)
from_16 (a ∷ b ∷ c ∷ d ∷ e ∷ f ∷ g ∷ h ∷ i ∷ j ∷ k ∷ l ∷ m ∷ []) len = absurd (omega arith)
from_16 (a ∷ b ∷ c ∷ d ∷ e ∷ f ∷ g ∷ h ∷ i ∷ j ∷ k ∷ l ∷ m ∷ n ∷ []) len = absurd (omega arith)
from_16 (a ∷ b ∷ c ∷ d ∷ e ∷ f ∷ g ∷ h ∷ i ∷ j ∷ k ∷ l ∷ m ∷ n ∷ o ∷ []) len = absurd (omega arith)
from_16 (a ∷ b ∷ c ∷ d ∷ e ∷ f ∷ g ∷ h ∷ i ∷ j ∷ k ∷ l ∷ m ∷ n ∷ o ∷ p ∷ []) len = omega arith
from_16 (a ∷ b ∷ c ∷ d ∷ e ∷ f ∷ g ∷ h ∷ i ∷ j ∷ k ∷ l ∷ m ∷ n ∷ o ∷ p ∷ q ∷ bytes) len = absurd (omega arith)

sixteen : (bytes : List ℕ) → length bytes ≡ 16 → IsBytes bytes → bytes_high_first 16 (value_of bytes) ≡ bytes
sixteen bytes len fits = subst (λ (k : ℕ). bytes_high_first k (value_of bytes) ≡ bytes) len (ap (bytes_high_first (length bytes)) (omega arith) ∙ low_bytes bytes 0 fits)

below_16 : (bytes : List ℕ) → length bytes ≡ 16 → IsBytes bytes → value_of bytes < 2 ^ 128
below_16 bytes len fits = let below : value_of bytes < 256 ^ 16 = subst (λ (k : ℕ). value_of bytes < 256 ^ k) len (value_below bytes fits) in omega arith

pub wide128 : IsWide w128 (2 ^ 128)
wide128 = record {
  len = λ n. refl;
  back = λ bytes len fits. ap (to_be_bytes w128) (from_16 bytes len) ∙ sixteen bytes len fits;
  again = λ n lt. from_16 (to_be_bytes w128 n) refl ∙ value-high_first 16 n ∙ omega arith;
  below = λ bytes len fits. subst (λ (n : ℕ). n < 2 ^ 128) (sym (from_16 bytes len)) (below_16 bytes len fits);
  fits = IsBytes-high_first 16;
}
