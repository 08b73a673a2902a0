-- Instructions without bodies that ask the ledger nothing: what each makes of the stack, one line for each.
use Rattle.std.specs.Prelude.{ℕ, zero, suc, pos, List, [], ◌∷◌, ◌++◌, length, take, drop, not, nat_le, int_le, int_lt, Option, Some, None, if◌then◌else◌}
use Rattle.std.specs.Option.{option_map}
use Rattle.value_core.specs.declared.val.Val.{Val}
use Rattle.value_core.specs.declared.val.Val.TheOpen as is
use Rattle.value_core.specs.declared.val.Val.TheVariants as value
use Rattle.value_core.specs.declared.val.Val.TheViews.{out-Val}
use Rattle.value_core.specs.Layer.{Layer}
use Rattle.michelson_code.specs.declared.instr.Instr.TheOpen as one
use Rattle.michelson_code.specs.declared.instr.Instr.TheOpen.{Instr-F}
use Rattle.michelson_code.specs.declared.script.Script.{Script}
use Rattle.michelson_code.specs.declared.why.Why.TheVariants as why
use Rattle.michelson_code.specs.Typing.{called}
use Rattle.michelson_rules.specs.declared.ask.Env.{Env}
use Rattle.michelson_rules.specs.Answers.{Answer, Answered, Gives, Ends, Misses, gives, missed, on_any, on_both, on_entry, on_key, on_none, on_one, on_two, sized}
use Rattle.michelson_rules.specs.Numbers.{is_zero, sum, difference, amount_left, negated, without_sign, as_nat, as_int, product, quotient, shifted_left, shifted_right, both, either, one_alone, opposite, tested, compared}
use Rattle.michelson_rules.specs.Collections.{in_front, all_in_a_row, in_a_row, count, hashed, member, found, updated, updated_with_old}

-- ---- the stack

-- `DROP n`
abbrev pub dropped : ℕ → List Val → Answered
dropped n stack = if nat_le n (length stack) then (Gives [], drop n stack) else missed

-- the items before and the one behind them
abbrev pub brought : List Val → List Val → Answered
brought items (x ∷ below) = (Gives (x ∷ items), below)
brought items [] = missed

-- `DIG n`
abbrev pub dug_out : ℕ → List Val → Answered
dug_out n stack = brought (take n stack) (drop n stack)

-- `DUG n`
abbrev pub dug_in : ℕ → List Val → Answered
dug_in n (x ∷ stack) = if nat_le n (length stack) then (Gives (take n stack ++ x ∷ []), drop n stack) else missed
dug_in n [] = missed

-- a copy of the first of some items, above a stack
abbrev pub copied : List Val → List Val → Answered
copied (x ∷ items) stack = (gives x, stack)
copied [] stack = missed

-- `DUP n`, counted from 1
abbrev pub copied_from : ℕ → List Val → Answered
copied_from zero stack = missed
copied_from (suc n) stack = copied (drop n stack) stack

-- ---- pairs

-- pairs to the right
abbrev pub comb_of : Val → List Val → Val
comb_of x [] = x
comb_of x (y ∷ ys) = value.Pair x (comb_of y ys)

-- items as a comb
abbrev pub combed : List Val → Answer
combed [] = Misses
combed (x ∷ xs) = sized (comb_of x xs)

-- `PAIR n`
abbrev pub paired : ℕ → List Val → Answered
paired n stack = if nat_le n (length stack) then (combed (take n stack), drop n stack) else missed

-- the first part of a pair before the parts of the second, or nothing
abbrev pub before_parts : (Val → Option (List Val)) → Layer Val → Option (List Val)
before_parts rest (is.Pair x y) = option_map (λ parts. x ∷ parts) (rest y)
before_parts rest _ = None

-- so many parts of a comb, from 1
abbrev pub parts_of_comb : ℕ → Val → Option (List Val)
parts_of_comb zero v = None
parts_of_comb (suc zero) v = Some (v ∷ [])
parts_of_comb (suc (suc n)) v = before_parts (parts_of_comb (suc n)) (out-Val v)

-- parts where there are some
abbrev pub in_parts : Option (List Val) → Answer
in_parts (Some parts) = Gives parts
in_parts None = Misses

-- `CAR` and `CDR`, by what is taken of the two parts
abbrev pub part_of : (Val → Val → Val) → Layer Val → Answer
part_of choose (is.Pair x y) = gives (choose x y)
part_of choose _ = Misses

-- ---- contracts and operations

-- `ADDRESS`
abbrev pub address_of : Layer Val → Answer
address_of (is.Contract address entry) = gives (value.Addr address)
address_of _ = Misses

-- `TRANSFER_TOKENS`
abbrev pub emitted : Val → Layer Val → Layer Val → Answer
emitted param (is.Mutez amount) (is.Contract address entry) =
    sized (value.Operation (record { dest = address; entry = entry; param = param; amount = amount }))
emitted param _ _ = Misses

-- of a list on top, or of two
abbrev pub in_a_row_by : Layer Val → List Val → Answered
in_a_row_by (is.List items) stack = on_one all_in_a_row stack
in_a_row_by _ stack = on_two in_a_row stack

-- `CONCAT`
abbrev pub concatenated : List Val → Answered
concatenated [] = missed
concatenated (x ∷ below) = in_a_row_by (out-Val x) (x ∷ below)

-- ---- the table

-- the instructions on data: they look at their operands alone
abbrev pub data_at : {A : Type 0} → Instr-F A → List Val → Answered
data_at one.Pair = paired 2
data_at (one.PairN n) = paired n
data_at one.Unpair = on_any (λ v. in_parts (parts_of_comb 2 v))
data_at (one.UnpairN n) = on_any (λ v. in_parts (parts_of_comb n v))
data_at one.Cons = on_key in_front
data_at one.Add = on_two sum
data_at one.Sub = on_two difference
data_at one.SubMutez = on_two amount_left
data_at one.Neg = on_one negated
data_at one.Abs = on_one without_sign
data_at one.IsNat = on_one as_nat
data_at one.Int = on_one as_int
data_at one.Lsl = on_two shifted_left
data_at one.Lsr = on_two shifted_right
data_at one.And = on_two both
data_at one.Or = on_two either
data_at one.Xor = on_two one_alone
data_at one.Not = on_one opposite
data_at one.Eq = on_one (tested is_zero)
data_at one.Neq = on_one (tested (λ x. not (is_zero x)))
data_at one.Lt = on_one (tested (λ x. int_lt x (pos 0)))
data_at one.Gt = on_one (tested (λ x. int_lt (pos 0) x))
data_at one.Le = on_one (tested (λ x. int_le x (pos 0)))
data_at one.Ge = on_one (tested (λ x. int_le (pos 0) x))
data_at one.Size = on_one count
data_at one.Compare = on_both compared
data_at one.Mul = on_two product
data_at one.Ediv = on_two quotient
data_at one.Concat = concatenated
data_at one.Mem = on_key member
data_at one.Get = on_key found
data_at one.Update = on_entry updated
data_at one.GetAndUpdate = on_entry updated_with_old
data_at one.Sha256 = on_one hashed
data_at _ = λ stack. missed

module _ (s : Script) (env : Env) where
  -- every instruction without bodies that asks the ledger nothing
  abbrev pub plain_at : {A : Type 0} → Instr-F A → List Val → Answered
  plain_at one.Drop = dropped 1
  plain_at (one.DropN n) = dropped n
  plain_at one.Dup = copied_from 1
  plain_at (one.DupN n) = copied_from n
  plain_at one.Swap = dug_out 1
  plain_at (one.Dig n) = dug_out n
  plain_at (one.Dug n) = dug_in n
  plain_at one.Unit = on_none value.Unit
  plain_at one.Car = on_one (part_of (λ x y. x))
  plain_at one.Cdr = on_one (part_of (λ x y. y))
  plain_at one.Some = on_any (λ v. gives (value.Some v))
  plain_at (one.None t) = on_none value.Nothing
  plain_at (one.Left t) = on_any (λ v. gives (value.Left v))
  plain_at (one.Right t) = on_any (λ v. gives (value.Right v))
  plain_at (one.Nil t) = on_none (value.List [])
  plain_at (one.Cast t) = on_any gives
  plain_at one.Rename = on_any gives
  plain_at (one.Push t v) = on_none v
  plain_at (one.EmptySet t) = on_none (value.Set [])
  plain_at (one.EmptyMap k v) = on_none (value.Map [])
  plain_at one.Failwith = on_any (λ v. Ends (why.Raised v))
  plain_at one.Amount = on_none (value.Mutez env.amount)
  plain_at one.Sender = on_none (value.Addr env.sender)
  plain_at one.Source = on_none (value.Addr env.source)
  plain_at one.SelfAddress = on_none (value.Addr env.me)
  plain_at one.Now = on_none (value.Time (pos env.now))
  plain_at one.Level = on_none (value.Nat (pos env.level))
  plain_at (one.SelfEntry e) = on_none (value.Contract env.me (called e))
  plain_at one.Address = on_one address_of
  plain_at one.TransferTokens = on_entry emitted
  plain_at i = data_at i
