-- Numbers as words: a word spells a number within bounds.
use Rattle.std.specs.Prelude.{ℕ, ◌-◌, ◌^◌, ◌≤◌, ◌≡◌, ◌↔◌, ◌&&◌, nat_le, List, length, slice_index, if◌then◌else◌, Option, Some, None}
use Rattle.std.specs.Str.{bytes_eq}
use Rattle.std.specs.Str.Parse.{IsNumeral, digits_value}
use Rattle.std.specs.Fmt.{decimal}

-- the greatest number that a word may spell
abbrev pub most_number : ℕ
most_number = 2 ^ 64 - 1

-- the number from `low` to `high` that the word is the decimal spelling of
unfoldable pub number_of : ℕ → ℕ → List ℕ → Option ℕ
number_of low high word =
    let n = digits_value 10 word in
    if bytes_eq word (decimal n) && nat_le low n && nat_le n high then Some n else None

-- a number has one spelling as a word, and a word spells one number
abbrev pub NumbersHaveOneSpelling : Type 0
NumbersHaveOneSpelling =
    (low high n : ℕ) (word : List ℕ) → high ≤ most_number →
    (number_of low high word ≡ Some n) ↔ ((word ≡ decimal n) × (low ≤ n) × (n ≤ high))

-- the word is `0`, or digits of which the first isn't 0
pub record IsDecimal (word : List ℕ) : Type 0 where
  pub digits : IsNumeral 10 word
  pub zero : slice_index word 0 ≡ 48 → length word ≡ 1

-- the words that spell numbers are these, and they spell what their digits are worth
abbrev pub NumbersAreDecimals : Type 0
NumbersAreDecimals =
    (low high n : ℕ) (word : List ℕ) → high ≤ most_number →
    (number_of low high word ≡ Some n) ↔ (IsDecimal word × (digits_value 10 word ≡ n) × (low ≤ n) × (n ≤ high))
