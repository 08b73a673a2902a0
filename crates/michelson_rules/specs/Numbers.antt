-- Instructions on numbers, bools and shifts: one equation for each line of the table of operands.
use Rattle.std.specs.Prelude.{ℕ, pos, negsuc, ◌-◌, ◌+◌, ◌*◌, ◌/◌, ◌%◌, ◌^◌, ℤ, ◌+ℤ◌, ◌-ℤ◌, ◌*ℤ◌, neg_ℤ, nat_abs, Bool, not, ◌&&◌, ◌||◌, ◌==◌, bit_and, bit_or, bit_xor, int_le, nat_le, nat_lt, if◌then◌else◌}
use Rattle.std.specs.Int.{int_div_euclid, int_rem_euclid}
use Rattle.std.specs.declared.cmp.Ordering.{Ordering}
use Rattle.std.specs.declared.cmp.Ordering.TheVariants.{Less, Equal, Greater}
use Rattle.value_core.specs.declared.val.Val.{Val}
use Rattle.value_core.specs.declared.val.Val.TheOpen as is
use Rattle.value_core.specs.declared.val.Val.TheVariants as value
use Rattle.value_core.specs.Layer.{Layer}
use Rattle.value_core.specs.Lawful.{is_number}
use Rattle.value_core.specs.Order.{order}
use Rattle.michelson_code.specs.declared.why.Why.TheVariants as why
use Rattle.michelson_rules.specs.Answers.{Answer, Ends, Misses, gives, in_range}

-- ---- results in their ranges

-- an `int`
abbrev pub int : ℤ → Answer
int z = in_range (is_number z) (value.Int z)

-- a `nat`
abbrev pub nat : ℤ → Answer
nat z = in_range (is_number z) (value.Nat z)

-- a `timestamp`
abbrev pub timestamp : ℤ → Answer
timestamp z = in_range (is_number z) (value.Time z)

-- an amount, below 2^63
abbrev pub mutez : ℕ → Answer
mutez n = in_range (nat_lt n (2 ^ 63)) (value.Mutez n)

-- ---- numbers

-- `ADD`
abbrev pub sum : Layer Val → Layer Val → Answer
sum (is.Nat x) (is.Nat y) = nat (x +ℤ y)
sum (is.Int x) (is.Int y) = int (x +ℤ y)
sum (is.Int x) (is.Nat y) = int (x +ℤ y)
sum (is.Nat x) (is.Int y) = int (x +ℤ y)
sum (is.Time x) (is.Int y) = timestamp (x +ℤ y)
sum (is.Int x) (is.Time y) = timestamp (x +ℤ y)
sum (is.Mutez x) (is.Mutez y) = mutez (x + y)
sum _ _ = Misses

-- `SUB`
abbrev pub difference : Layer Val → Layer Val → Answer
difference (is.Nat x) (is.Nat y) = int (x -ℤ y)
difference (is.Int x) (is.Int y) = int (x -ℤ y)
difference (is.Int x) (is.Nat y) = int (x -ℤ y)
difference (is.Nat x) (is.Int y) = int (x -ℤ y)
difference (is.Time x) (is.Int y) = timestamp (x -ℤ y)
difference (is.Time x) (is.Time y) = int (x -ℤ y)
difference _ _ = Misses

-- `SUB_MUTEZ`: none below 0
abbrev pub amount_left : Layer Val → Layer Val → Answer
amount_left (is.Mutez x) (is.Mutez y) = gives (if nat_le y x then value.Some (value.Mutez (x - y)) else value.Nothing)
amount_left _ _ = Misses

-- `NEG`
abbrev pub negated : Layer Val → Answer
negated (is.Int x) = int (neg_ℤ x)
negated (is.Nat x) = int (neg_ℤ x)
negated _ = Misses

-- `ABS`
abbrev pub without_sign : Layer Val → Answer
without_sign (is.Int x) = nat (pos (nat_abs x))
without_sign _ = Misses

-- `ISNAT`: none below 0
abbrev pub as_nat : Layer Val → Answer
as_nat (is.Int x) = gives (if int_le (pos 0) x then value.Some (value.Nat x) else value.Nothing)
as_nat _ = Misses

-- `INT`
abbrev pub as_int : Layer Val → Answer
as_int (is.Nat x) = int x
as_int _ = Misses

-- `MUL`
abbrev pub product : Layer Val → Layer Val → Answer
product (is.Nat x) (is.Nat y) = nat (x *ℤ y)
product (is.Int x) (is.Int y) = int (x *ℤ y)
product (is.Int x) (is.Nat y) = int (x *ℤ y)
product (is.Nat x) (is.Int y) = int (x *ℤ y)
product (is.Mutez x) (is.Nat y) = mutez (x * nat_abs y)
product (is.Nat x) (is.Mutez y) = mutez (nat_abs x * y)
product _ _ = Misses

-- nothing
abbrev pub is_zero : ℤ → Bool
is_zero z = nat_abs z == 0

-- none for the divisor 0, else some pair
abbrev pub divided : ℤ → Val → Val → Answer
divided divisor quotient remainder = gives (if is_zero divisor then value.Nothing else value.Some (value.Pair quotient remainder))

-- `EDIV`: the remainder is from 0 to below the divisor without its sign
abbrev pub quotient : Layer Val → Layer Val → Answer
quotient (is.Nat x) (is.Nat y) = divided y (value.Nat (int_div_euclid x y)) (value.Nat (int_rem_euclid x y))
quotient (is.Int x) (is.Int y) = divided y (value.Int (int_div_euclid x y)) (value.Nat (int_rem_euclid x y))
quotient (is.Int x) (is.Nat y) = divided y (value.Int (int_div_euclid x y)) (value.Nat (int_rem_euclid x y))
quotient (is.Nat x) (is.Int y) = divided y (value.Int (int_div_euclid x y)) (value.Nat (int_rem_euclid x y))
quotient (is.Mutez x) (is.Nat y) = divided y (value.Mutez (x / nat_abs y)) (value.Mutez (x % nat_abs y))
quotient (is.Mutez x) (is.Mutez y) = divided (pos y) (value.Nat (pos (x / y))) (value.Mutez (x % y))
quotient _ _ = Misses

-- ---- bits and bools

-- a shift by at most 256 bits
abbrev pub shifted : ℤ → Answer → Answer
shifted by answer = if int_le by (pos 256) then answer else Ends why.Shift

-- `LSL`
abbrev pub shifted_left : Layer Val → Layer Val → Answer
shifted_left (is.Nat x) (is.Nat y) = shifted y (nat (x *ℤ pos (2 ^ nat_abs y)))
shifted_left _ _ = Misses

-- `LSR`
abbrev pub shifted_right : Layer Val → Layer Val → Answer
shifted_right (is.Nat x) (is.Nat y) = shifted y (nat (pos (nat_abs x / 2 ^ nat_abs y)))
shifted_right _ _ = Misses

-- the bits of y that x has too; -1 - n has the bits that n lacks
abbrev pub bits_of_both : ℤ → ℕ → ℕ
bits_of_both (pos x) y = bit_and x y
bits_of_both (negsuc n) y = y - bit_and n y

-- `AND`
abbrev pub both : Layer Val → Layer Val → Answer
both (is.Bool x) (is.Bool y) = gives (value.Bool (x && y))
both (is.Nat x) (is.Nat y) = nat (pos (bit_and (nat_abs x) (nat_abs y)))
both (is.Int x) (is.Nat y) = nat (pos (bits_of_both x (nat_abs y)))
both _ _ = Misses

-- `OR`
abbrev pub either : Layer Val → Layer Val → Answer
either (is.Bool x) (is.Bool y) = gives (value.Bool (x || y))
either (is.Nat x) (is.Nat y) = nat (pos (bit_or (nat_abs x) (nat_abs y)))
either _ _ = Misses

-- `XOR`
abbrev pub one_alone : Layer Val → Layer Val → Answer
one_alone (is.Bool x) (is.Bool y) = gives (value.Bool ((x || y) && not (x && y)))
one_alone (is.Nat x) (is.Nat y) = nat (pos (bit_xor (nat_abs x) (nat_abs y)))
one_alone _ _ = Misses

-- `NOT`
abbrev pub opposite : Layer Val → Answer
opposite (is.Bool x) = gives (value.Bool (not x))
opposite (is.Int x) = int (neg_ℤ x -ℤ pos 1)
opposite (is.Nat x) = int (neg_ℤ x -ℤ pos 1)
opposite _ = Misses

-- `EQ` and the others: whether a test holds of an int
abbrev pub tested : (ℤ → Bool) → Layer Val → Answer
tested test (is.Int x) = gives (value.Bool (test x))
tested test _ = Misses

-- -1, 0 or 1
abbrev pub as_number : Ordering → ℤ
as_number Less = negsuc 0
as_number Equal = pos 0
as_number Greater = pos 1

-- `COMPARE`
abbrev pub compared : Val → Val → Answer
compared x y = gives (value.Int (as_number (order x y)))
