-- Each line of the table of operands is answered: its operands are never missed, and its results have its types.
use Rattle.std.proofs.Common.{◌≡◌, ℕ, ℤ, pos, ◌+◌, ◌*◌, ◌/◌, ◌^◌, ◌+ℤ◌, neg_ℤ, ◌-ℤ◌, ◌*ℤ◌, nat_abs, bit_and, bit_or, bit_xor, Bool, true, false, not, ◌&&◌, ◌||◌, [], ◌∷◌, length, refl, sym, subst}
use Rattle.std.specs.Prelude.{IsTrue, int_le, int_lt, nat_lt}
use Rattle.std.specs.List.{AllByRecursion}
use Rattle.value_core.specs.declared.val.Val.{Val}
use Rattle.value_core.specs.declared.val.Val.TheVariants as value
use Rattle.value_core.specs.declared.ty.Ty.{Ty}
use Rattle.value_core.specs.declared.ty.Ty.TheVariants as type
use Rattle.value_core.specs.Layer.{Layer}
use Rattle.michelson_code.specs.declared.instr.Instr.TheOpen as one
use Rattle.michelson_code.specs.declared.instr.Instr.TheOpen.{Instr-F}
use Rattle.michelson_code.specs.declared.operands.Line.{Line}
use Rattle.michelson_code.specs.declared.operands.Part.TheVariants as part
use Rattle.michelson_code.specs.declared.script.Script.{Script}
use Rattle.michelson_code.specs.Operands.{lines}
use Rattle.michelson_code.specs.Typing.{Choice, called, part_type, slot_types}
use Rattle.michelson_rules.specs.declared.ask.Env.{Env}
use Rattle.michelson_rules.specs.Answers.{Answer, gives, on_any, on_key, on_one, on_two}
use Rattle.michelson_rules.specs.Numbers.{amount_left, as_int, as_nat, bits_of_both, both, compared, difference, either, is_zero, negated, one_alone, opposite, product, quotient, shifted_left, shifted_right, sum, tested, without_sign}
use Rattle.michelson_rules.specs.Collections.{count, found, hashed, in_front, member, updated, updated_with_old}
use Rattle.michelson_rules.specs.Collections.{count, found, hashed, in_front, member, updated, updated_with_old}
use Rattle.michelson_rules.specs.Collections.{count, found, hashed, in_front, member, updated, updated_with_old}
use Rattle.michelson_rules.specs.Numbers as outcome
use Rattle.michelson_rules.specs.Plain.{address_of, emitted, part_of, plain_at}
use Rattle.michelson_rules.specs.TypedStacks.{asks}
use Rattle.michelson_rules.proofs.TypedAnswers.{Typing, Kind, Takes, takes_any, takes_both, takes_entry, takes_key, takes_none, takes_one, takes_two, one_result}
use Rattle.michelson_rules.proofs.OperandKinds.{a_bool, a_bytes, a_contract, a_list, a_map, a_mutez, a_nat, a_pair, a_set, a_text, a_time, an_int, an_option, has_addr, has_bytes, has_contract, has_int, has_left, has_list, has_map, has_mutez, has_nat, has_nothing, has_right, has_set, has_some, has_time, has_unit}
use Rattle.michelson_rules.proofs.Moves.{copies_from, digs, drops, pairs, unpairs}
use Rattle.michelson_rules.proofs.NumberResults.{Is, a_bool_is, a_mutez_is, a_nat_at_best, a_nat_is, a_quotient_is, a_remainder, a_rest, a_share, a_shift_is, a_time_is, an_amount_is_left, an_int_is}
use Rattle.michelson_rules.proofs.CollectionResults.{bytes_in_a_row, emitted_is, found_is_there, in_front_is, list_in_a_row, member_of_map, member_of_set, strings_in_a_row, updated_map_is, updated_set_is, updated_with_old_is}

-- a claim that is owed where a test fails
abbrev pub Unless : Bool → Type 0 → Type 0
Unless true P = Unit {0}
Unless false P = P

-- a value is pushed, whose type isn't in the line alone
abbrev pub is_push : {A : Type 0} → Instr-F A → Bool
is_push (one.Push t v) = true
is_push x = false

module _ (typing : Typing) where
  -- ---- the kinds by short names

  abbrev nat : Kind typing
  nat = a_nat typing

  abbrev int : Kind typing
  int = an_int typing

  abbrev bool : Kind typing
  bool = a_bool typing

  abbrev mutez : Kind typing
  mutez = a_mutez typing

  abbrev time : Kind typing
  time = a_time typing

  -- ---- one result of this type, of operands of these kinds

  of_one : (a : Kind typing) (t : Ty) (f : Layer Val → Answer) → ((d : a.Data) → Is typing t (f (a.layer d))) → Takes typing (a.type ∷ []) (t ∷ []) (on_one f)
  of_one a t f answers = takes_one typing a (t ∷ []) f answers

  of_two : (a b : Kind typing) (t : Ty) (f : Layer Val → Layer Val → Answer) → ((d : a.Data) (e : b.Data) → Is typing t (f (a.layer d) (b.layer e))) →
      Takes typing (a.type ∷ b.type ∷ []) (t ∷ []) (on_two f)
  of_two a b t f answers = takes_two typing a b (t ∷ []) f answers

  of_any : (t u : Ty) (f : Val → Val) → ((v : Val) → typing.Has v t → typing.Has (f v) u) → Takes typing (t ∷ []) (u ∷ []) (on_any (λ v. gives (f v)))
  of_any t u f has = takes_any typing t (u ∷ []) (λ v. gives (f v)) (λ v is. one_result typing (f v) u (has v is))

  of_key : (t : Ty) (a : Kind typing) (u : Ty) (f : Val → Layer Val → Answer) → ((v : Val) → typing.Has v t → (d : a.Data) → Is typing u (f v (a.layer d))) →
      Takes typing (t ∷ a.type ∷ []) (u ∷ []) (on_key f)
  of_key t a u f answers = takes_key typing t a (u ∷ []) f answers

  -- the test of an int
  test : (holds : ℤ → Bool) → Takes typing (type.Int ∷ []) (type.Bool ∷ []) (on_one (tested holds))
  test holds = of_one int type.Bool (tested holds) (λ z. a_bool_is typing (holds z))

  -- how many there are
  counts : (a : Kind typing) (n : a.Data → ℕ) → ((d : a.Data) → count (a.layer d) ≡ gives (value.Nat (pos (n d)))) → Takes typing (a.type ∷ []) (type.Nat ∷ []) (on_one count)
  counts a n same = of_one a type.Nat count (λ d. subst (Is typing type.Nat) (sym (same d)) (one_result typing _ _ (has_nat typing (n d))))

  -- ---- the lines

  module _ (s : Script) (env : Env) (within : IsTrue (nat_lt env.amount (2 ^ 63))) where
    -- what a line owes, where the ledger isn't asked
    abbrev pub Answers : {A : Type 0} → Instr-F A → Line → Type 0
    Answers x l = Unless (asks x l) ((c : Choice) → Takes typing (slot_types c l.0) (slot_types c l.1) (plain_at s env x))

    pub lines_answered : {A : Type 0} (x : Instr-F A) → Unless (is_push x) (AllByRecursion (Answers x) (lines x))
    lines_answered one.Drop = (λ c stack us has. drops typing (c.a ∷ []) us stack has, tt)
    lines_answered one.Dup = (λ c stack us has. copies_from typing [] c.a us stack has, tt)
    lines_answered one.Swap = (λ c stack us has. digs typing (c.a ∷ []) c.b us stack has, tt)
    lines_answered one.Unit = (λ c. takes_none typing _ _ (has_unit typing), tt)
    lines_answered one.Pair = (λ c stack us has. pairs typing (c.a ∷ []) c.b us stack has, tt)
    lines_answered one.Unpair = (λ c stack us has. unpairs typing (c.a ∷ []) c.b us stack has, tt)
    lines_answered one.Car = (λ c. of_one (a_pair typing c.a c.b) c.a (part_of (λ x y. x)) (λ p. one_result typing _ _ p.2), tt)
    lines_answered one.Cdr = (λ c. of_one (a_pair typing c.a c.b) c.b (part_of (λ x y. y)) (λ p. one_result typing _ _ p.3), tt)
    lines_answered one.Some = (λ c. of_any c.a (type.Option c.a) (λ v. value.Some v) (λ v has. has_some typing v c.a has), tt)
    lines_answered (one.None t) = (λ c. takes_none typing _ _ (has_nothing typing _), tt)
    lines_answered (one.Left t) = (λ c. of_any c.a (type.Or c.a (part_type c part.T)) (λ v. value.Left v) (λ v has. has_left typing v c.a _ has), tt)
    lines_answered (one.Right t) = (λ c. of_any c.a (type.Or (part_type c part.T) c.a) (λ v. value.Right v) (λ v has. has_right typing v _ c.a has), tt)
    lines_answered (one.Nil t) = (λ c. takes_none typing _ _ (has_list typing [] _ (refl, tt)), tt)
    lines_answered one.Cons = (λ c. of_key c.a (a_list typing c.a) (type.List c.a) in_front (in_front_is typing c.a), tt)
    lines_answered (one.Cast t) = (λ c. of_any (part_type c part.T) (part_type c part.T) (λ v. v) (λ v has. has), tt)
    lines_answered one.Rename = (λ c. of_any c.a c.a (λ v. v) (λ v has. has), tt)
    lines_answered (one.Push t v) = tt
    lines_answered (one.EmptySet t) = (λ c. takes_none typing _ _ (has_set typing [] _ (refl, refl, tt)), tt)
    lines_answered (one.EmptyMap k v) = (λ c. takes_none typing _ _ (has_map typing [] _ _ (refl, refl, tt)), tt)
    lines_answered one.Add = (
      λ c. of_two nat nat type.Nat sum (λ m n. a_nat_is typing (m + n)),
      (
        λ c. of_two int int type.Int sum (λ m n. an_int_is typing (m +ℤ n)),
        (
          λ c. of_two int nat type.Int sum (λ m n. an_int_is typing (m +ℤ pos n)),
          (
            λ c. of_two nat int type.Int sum (λ m n. an_int_is typing (pos m +ℤ n)),
            (
              λ c. of_two time int type.Time sum (λ m n. a_time_is typing (m +ℤ n)),
              (
                λ c. of_two int time type.Time sum (λ m n. a_time_is typing (m +ℤ n)),
                (λ c. of_two mutez mutez type.Mutez sum (λ m n. a_mutez_is typing (m.0 + n.0)), tt),
              ),
            ),
          ),
        ),
      ),
    )
    lines_answered one.Sub = (
      λ c. of_two nat nat type.Int difference (λ m n. an_int_is typing (pos m -ℤ pos n)),
      (
        λ c. of_two int int type.Int difference (λ m n. an_int_is typing (m -ℤ n)),
        (
          λ c. of_two int nat type.Int difference (λ m n. an_int_is typing (m -ℤ pos n)),
          (
            λ c. of_two nat int type.Int difference (λ m n. an_int_is typing (pos m -ℤ n)),
            (
              λ c. of_two time int type.Time difference (λ m n. a_time_is typing (m -ℤ n)),
              (λ c. of_two time time type.Int difference (λ m n. an_int_is typing (m -ℤ n)), tt),
            ),
          ),
        ),
      ),
    )
    lines_answered one.SubMutez = (λ c. of_two mutez mutez (type.Option type.Mutez) amount_left (an_amount_is_left typing), tt)
    lines_answered one.Neg = (
      λ c. of_one int type.Int negated (λ n. an_int_is typing (neg_ℤ n)),
      (λ c. of_one nat type.Int negated (λ n. an_int_is typing (neg_ℤ (pos n))), tt),
    )
    lines_answered one.Abs = (λ c. of_one int type.Nat without_sign (λ n. a_nat_is typing (nat_abs n)), tt)
    lines_answered one.IsNat = (λ c. of_one int (type.Option type.Nat) as_nat (a_nat_at_best typing), tt)
    lines_answered one.Int = (λ c. of_one nat type.Int as_int (λ n. an_int_is typing (pos n)), tt)
    lines_answered one.Lsl = (λ c. of_two nat nat type.Nat shifted_left (λ m n. a_shift_is typing (pos n) type.Nat (outcome.nat (pos (m * 2 ^ n))) (a_nat_is typing (m * 2 ^ n))), tt)
    lines_answered one.Lsr = (λ c. of_two nat nat type.Nat shifted_right (λ m n. a_shift_is typing (pos n) type.Nat (outcome.nat (pos (m / 2 ^ n))) (a_nat_is typing (m / 2 ^ n))), tt)
    lines_answered one.And = (
      λ c. of_two bool bool type.Bool both (λ m n. a_bool_is typing (m && n)),
      (
        λ c. of_two nat nat type.Nat both (λ m n. a_nat_is typing (bit_and m n)),
        (λ c. of_two int nat type.Nat both (λ m n. a_nat_is typing (bits_of_both m n)), tt),
      ),
    )
    lines_answered one.Or = (
      λ c. of_two bool bool type.Bool either (λ m n. a_bool_is typing (m || n)),
      (λ c. of_two nat nat type.Nat either (λ m n. a_nat_is typing (bit_or m n)), tt),
    )
    lines_answered one.Xor = (
      λ c. of_two bool bool type.Bool one_alone (λ m n. a_bool_is typing ((m || n) && not (m && n))),
      (λ c. of_two nat nat type.Nat one_alone (λ m n. a_nat_is typing (bit_xor m n)), tt),
    )
    lines_answered one.Not = (
      λ c. of_one bool type.Bool opposite (λ n. a_bool_is typing (not n)),
      (
        λ c. of_one int type.Int opposite (λ n. an_int_is typing (neg_ℤ n -ℤ pos 1)),
        (λ c. of_one nat type.Int opposite (λ n. an_int_is typing (neg_ℤ (pos n) -ℤ pos 1)), tt),
      ),
    )
    lines_answered one.Eq = (λ c. test is_zero, tt)
    lines_answered one.Neq = (λ c. test (λ x. not (is_zero x)), tt)
    lines_answered one.Lt = (λ c. test (λ x. int_lt x (pos 0)), tt)
    lines_answered one.Gt = (λ c. test (λ x. int_lt (pos 0) x), tt)
    lines_answered one.Le = (λ c. test (λ x. int_le x (pos 0)), tt)
    lines_answered one.Ge = (λ c. test (λ x. int_le (pos 0) x), tt)
    lines_answered one.Size = (
      λ c. counts (a_text typing) (λ d. length d) (λ d. refl),
      (
        λ c. counts (a_bytes typing) (λ d. length d) (λ d. refl),
        (
          λ c. counts (a_list typing c.a) (λ d. length d.0) (λ d. refl),
          (
            λ c. counts (a_set typing c.a) (λ d. length d.0) (λ d. refl),
            (λ c. counts (a_map typing c.a c.b) (λ d. length d.0) (λ d. refl), tt),
          ),
        ),
      ),
    )
    lines_answered one.Amount = (λ c. takes_none typing _ _ (has_mutez typing env.amount within), tt)
    lines_answered one.Sender = (λ c. takes_none typing _ _ (has_addr typing env.sender), tt)
    lines_answered one.Source = (λ c. takes_none typing _ _ (has_addr typing env.source), tt)
    lines_answered one.SelfAddress = (λ c. takes_none typing _ _ (has_addr typing env.me), tt)
    lines_answered one.Now = (λ c. takes_none typing _ _ (has_time typing (pos env.now)), tt)
    lines_answered one.Level = (λ c. takes_none typing _ _ (has_nat typing env.level), tt)
    lines_answered (one.SelfEntry e) = (λ c. takes_none typing _ _ (has_contract typing env.me (called e) _), tt)
    lines_answered one.Address = (λ c. of_one (a_contract typing c.a) type.Addr address_of (λ d. one_result typing _ _ (has_addr typing d.0)), tt)
    lines_answered one.Compare = (λ c. takes_both typing c.k c.k (type.Int ∷ []) compared (λ v w has other. one_result typing _ _ (has_int typing _)), tt)
    lines_answered one.Mul = (
      λ c. of_two nat nat type.Nat product (λ m n. a_nat_is typing (m * n)),
      (
        λ c. of_two int int type.Int product (λ m n. an_int_is typing (m *ℤ n)),
        (
          λ c. of_two int nat type.Int product (λ m n. an_int_is typing (m *ℤ pos n)),
          (
            λ c. of_two nat int type.Int product (λ m n. an_int_is typing (pos m *ℤ n)),
            (
              λ c. of_two mutez nat type.Mutez product (λ m n. a_mutez_is typing (m.0 * n)),
              (λ c. of_two nat mutez type.Mutez product (λ m n. a_mutez_is typing (m * n.0)), tt),
            ),
          ),
        ),
      ),
    )
    lines_answered one.Ediv = (
      λ c. of_two nat nat (type.Option (type.Pair type.Nat type.Nat)) quotient (λ m n. a_quotient_is typing (pos n) _ _ _ _ (has_nat typing _) (has_nat typing _)),
      (
        λ c. of_two int int (type.Option (type.Pair type.Int type.Nat)) quotient (λ m n. a_quotient_is typing n _ _ _ _ (has_int typing _) (a_remainder typing m n)),
        (
          λ c. of_two int nat (type.Option (type.Pair type.Int type.Nat)) quotient (λ m n. a_quotient_is typing (pos n) _ _ _ _ (has_int typing _) (a_remainder typing m (pos n))),
          (
            λ c. of_two nat int (type.Option (type.Pair type.Int type.Nat)) quotient (λ m n. a_quotient_is typing n _ _ _ _ (has_int typing _) (has_nat typing _)),
            (
              λ c. of_two mutez nat (type.Option (type.Pair type.Mutez type.Mutez)) quotient (λ m n. a_quotient_is typing (pos n) _ _ _ _ (a_share typing m n) (a_rest typing m n)),
              (λ c. of_two mutez mutez (type.Option (type.Pair type.Nat type.Mutez)) quotient (λ m n. a_quotient_is typing (pos n.0) _ _ _ _ (has_nat typing _) (a_rest typing m n.0)), tt),
            ),
          ),
        ),
      ),
    )
    lines_answered one.Concat = (
      λ c. strings_in_a_row typing,
      (
        λ c. bytes_in_a_row typing,
        (λ c. list_in_a_row typing, tt),
      ),
    )
    lines_answered one.Mem = (
      λ c. of_key c.a (a_set typing c.a) type.Bool member (λ v has l. member_of_set typing c.a v l),
      (
        λ c. of_key c.a (a_map typing c.a c.b) type.Bool member (λ v has l. member_of_map typing c.a c.b v l),
        (tt, tt),
      ),
    )
    lines_answered one.Get = (
      λ c. of_key c.a (a_map typing c.a c.b) (type.Option c.b) found (λ v has l. found_is_there typing c.a c.b v l),
      (tt, tt),
    )
    lines_answered one.Update = (
      λ c. takes_entry typing c.a (a_bool typing) (a_set typing c.a) (type.Set c.a ∷ []) updated (updated_set_is typing c.a),
      (
        λ c. takes_entry typing c.a (an_option typing c.b) (a_map typing c.a c.b) (type.Map c.a c.b ∷ []) updated (updated_map_is typing c.a c.b),
        (tt, tt),
      ),
    )
    lines_answered one.GetAndUpdate = (
      λ c. takes_entry typing c.a (an_option typing c.b) (a_map typing c.a c.b) (type.Option c.b ∷ type.Map c.a c.b ∷ []) updated_with_old (updated_with_old_is typing c.a c.b),
      (tt, tt),
    )
    lines_answered one.Sha256 = (λ c. of_one (a_bytes typing) type.Bytes hashed (λ n. one_result typing _ _ (has_bytes typing _)), tt)
    lines_answered one.Balance = (tt, tt)
    lines_answered (one.Contract e t) = (tt, tt)
    lines_answered one.TransferTokens = (λ c. takes_entry typing c.a (a_mutez typing) (a_contract typing c.a) (type.Operation ∷ []) emitted (emitted_is typing c.a), tt)
    lines_answered _ = tt
