-- What instructions on numbers and bools give: values of the types of their lines.
use Rattle.std.proofs.Common.{ℕ, ℤ, pos, negsuc, ◌-◌, ◌/◌, ◌%◌, ◌^◌, ◌≤◌, Bool, true, false, [], ◌∷◌, arith, div-le_self}
use native.Mathlib.Nat.{mod-le}
use Rattle.std.specs.Prelude.{IsTrue, int_le, nat_le, nat_lt, if◌then◌else◌}
use Rattle.std.specs.Int.{int_rem_euclid}
use Rattle.std.proofs.lemmas.Bool.Decides.{nat_tests}
use Rattle.value_core.specs.declared.val.Val.{Val}
use Rattle.value_core.specs.declared.val.Val.TheOpen as is
use Rattle.value_core.specs.declared.val.Val.TheVariants as value
use Rattle.value_core.specs.declared.ty.Ty.{Ty}
use Rattle.value_core.specs.declared.ty.Ty.TheVariants as type
use Rattle.value_core.specs.Lawful.{is_number}
use Rattle.michelson_code.specs.declared.why.Why.TheVariants as why
use Rattle.michelson_rules.specs.Answers.{Answer, Ends, gives}
use Rattle.michelson_rules.specs.Numbers.{int, nat, timestamp, mutez, is_zero, divided, amount_left, as_nat, shifted}
use Rattle.michelson_rules.proofs.TypedAnswers.{Typing, AnswerHas, result_within, one_result}
use Rattle.michelson_rules.proofs.OperandKinds.{Amount, has_bool, has_int, has_mutez, has_nat, has_nothing, has_pair, has_some, has_time}

below_limit : (m n limit : ℕ) → m ≤ n → IsTrue (nat_lt n limit) → IsTrue (nat_lt m limit)
below_limit m n limit le h = grind (arith, nat_tests)

module _ (typing : Typing) where
  -- one result of the type, or a failure
  abbrev pub Is : Ty → Answer → Type 0
  Is t = AnswerHas typing (t ∷ [])

  pub an_int_is : (z : ℤ) → Is type.Int (int z)
  an_int_is z = result_within typing (is_number z) _ _ (λ _. has_int typing z)

  pub a_nat_is : (n : ℕ) → Is type.Nat (nat (pos n))
  a_nat_is n = result_within typing (is_number (pos n)) _ _ (λ _. has_nat typing n)

  pub a_time_is : (z : ℤ) → Is type.Time (timestamp z)
  a_time_is z = result_within typing (is_number z) _ _ (λ _. has_time typing z)

  pub a_mutez_is : (n : ℕ) → Is type.Mutez (mutez n)
  a_mutez_is n = result_within typing (nat_lt n (2 ^ 63)) _ _ (has_mutez typing n)

  pub a_bool_is : (b : Bool) → Is type.Bool (gives (value.Bool b))
  a_bool_is b = one_result typing _ _ (has_bool typing b)

  -- some value, or none
  pub perhaps : (b : Bool) (v : Val) (t : Ty) → typing.Has v t → typing.Has (if b then value.Some v else value.Nothing) (type.Option t)
  perhaps true v t has = has_some typing v t has
  perhaps false v t has = has_nothing typing t

  pub an_amount_is_left : (m n : Amount typing) → Is (type.Option type.Mutez) (amount_left (is.Mutez m.0) (is.Mutez n.0))
  an_amount_is_left m n = one_result typing _ _ (perhaps (nat_le n.0 m.0) _ _ (has_mutez typing (m.0 - n.0) (below_limit (m.0 - n.0) m.0 (2 ^ 63) (omega arith) m.1)))

  pub a_nat_at_best : (z : ℤ) → Is (type.Option type.Nat) (as_nat (is.Int z))
  a_nat_at_best (pos n) = one_result typing _ _ (perhaps (int_le (pos 0) (pos n)) _ _ (has_nat typing n))
  a_nat_at_best (negsuc n) = one_result typing _ _ (has_nothing typing type.Nat)

  -- a quotient and a remainder, or none
  divides : (b : Bool) (q r : Val) (t u : Ty) → typing.Has q t → typing.Has r u → Is (type.Option (type.Pair t u)) (gives (if b then value.Nothing else value.Some (value.Pair q r)))
  divides true q r t u whole rest = one_result typing _ _ (has_nothing typing (type.Pair t u))
  divides false q r t u whole rest = one_result typing _ _ (has_some typing _ _ (has_pair typing q r t u (whole, rest)))

  pub a_quotient_is : (divisor : ℤ) (q r : Val) (t u : Ty) → typing.Has q t → typing.Has r u → Is (type.Option (type.Pair t u)) (divided divisor q r)
  a_quotient_is divisor q r t u = divides (is_zero divisor) q r t u

  pub a_remainder : (x y : ℤ) → typing.Has (value.Nat (int_rem_euclid x y)) type.Nat
  a_remainder (pos m) y = has_nat typing _
  a_remainder (negsuc m) y = has_nat typing _

  pub a_share : (m : Amount typing) (n : ℕ) → typing.Has (value.Mutez (m.0 / n)) type.Mutez
  a_share m n = has_mutez typing (m.0 / n) (below_limit (m.0 / n) m.0 (2 ^ 63) (div-le_self m.0 n) m.1)

  pub a_rest : (m : Amount typing) (n : ℕ) → typing.Has (value.Mutez (m.0 % n)) type.Mutez
  a_rest m n = has_mutez typing (m.0 % n) (below_limit (m.0 % n) m.0 (2 ^ 63) (mod-le m.0 n) m.1)

  -- a shift that isn't too far
  shifts : (near : Bool) (t : Ty) (a : Answer) → Is t a → Is t (if near then a else Ends why.Shift)
  shifts true t a h = h
  shifts false t a h = tt

  pub a_shift_is : (by : ℤ) (t : Ty) (a : Answer) → Is t a → Is t (shifted by a)
  a_shift_is by t a = shifts (int_le by (pos 256)) t a
