-- Which operations make one value of one operand, and which of two: the table, with misses elsewhere.
use Rattle.std.specs.Prelude.{pos, not, int_le, int_lt}
use Rattle.value_core.specs.declared.val.Val.{Val}
use Rattle.value_core.specs.declared.val.Val.TheViews.{out-Val}
use Rattle.value_core.specs.Layer.{Layer}
use Rattle.michelson_rules.specs.Answers.{Answer, Misses}
use Rattle.michelson_rules.specs.Numbers.{is_zero, sum, difference, amount_left, negated, without_sign, as_nat, as_int, product, quotient, shifted_left, shifted_right, both, either, one_alone, opposite, tested, compared}
use Rattle.michelson_rules.specs.Collections.{count, found, hashed, member}
use Rattle.michelson_data.specs.declared.op.DataOp.{DataOp}
use Rattle.michelson_data.specs.declared.op.DataOp.TheVariants as op
use Rattle.michelson_data.specs.declared.operands.Operands.{Operands}
use Rattle.michelson_data.specs.declared.operands.Operands.TheVariants as takes

-- what is made of the top
abbrev pub of_one : DataOp → Layer Val → Answer
of_one op.Neg = negated
of_one op.Abs = without_sign
of_one op.IsNat = as_nat
of_one op.Int = as_int
of_one op.Not = opposite
of_one op.Eq = tested is_zero
of_one op.Neq = tested (λ x. not (is_zero x))
of_one op.Lt = tested (λ x. int_lt x (pos 0))
of_one op.Gt = tested (λ x. int_lt (pos 0) x)
of_one op.Le = tested (λ x. int_le x (pos 0))
of_one op.Ge = tested (λ x. int_le (pos 0) x)
of_one op.Size = count
of_one op.Sha256 = hashed
of_one _ = λ x. Misses

-- what is made of the two on top
abbrev pub of_two : DataOp → Val → Val → Answer
of_two op.Add x y = sum (out-Val x) (out-Val y)
of_two op.Sub x y = difference (out-Val x) (out-Val y)
of_two op.SubMutez x y = amount_left (out-Val x) (out-Val y)
of_two op.Lsl x y = shifted_left (out-Val x) (out-Val y)
of_two op.Lsr x y = shifted_right (out-Val x) (out-Val y)
of_two op.And x y = both (out-Val x) (out-Val y)
of_two op.Or x y = either (out-Val x) (out-Val y)
of_two op.Xor x y = one_alone (out-Val x) (out-Val y)
of_two op.Compare x y = compared x y
of_two op.Mul x y = product (out-Val x) (out-Val y)
of_two op.Ediv x y = quotient (out-Val x) (out-Val y)
of_two op.Mem x y = member x (out-Val y)
of_two op.Get x y = found x (out-Val y)
of_two _ x y = Misses

-- what each takes from the stack
abbrev pub kind_of : DataOp → Operands
kind_of op.Pair = takes.Together 2
kind_of (op.PairN n) = takes.Together n
kind_of op.Unpair = takes.Apart 2
kind_of (op.UnpairN n) = takes.Apart n
kind_of op.Cons = takes.Front
kind_of op.Add = takes.Two
kind_of op.Sub = takes.Two
kind_of op.SubMutez = takes.Two
kind_of op.Neg = takes.One
kind_of op.Abs = takes.One
kind_of op.IsNat = takes.One
kind_of op.Int = takes.One
kind_of op.Lsl = takes.Two
kind_of op.Lsr = takes.Two
kind_of op.And = takes.Two
kind_of op.Or = takes.Two
kind_of op.Xor = takes.Two
kind_of op.Not = takes.One
kind_of op.Eq = takes.One
kind_of op.Neq = takes.One
kind_of op.Lt = takes.One
kind_of op.Gt = takes.One
kind_of op.Le = takes.One
kind_of op.Ge = takes.One
kind_of op.Size = takes.One
kind_of op.Compare = takes.Two
kind_of op.Mul = takes.Two
kind_of op.Ediv = takes.Two
kind_of op.Concat = takes.Row
kind_of op.Mem = takes.Two
kind_of op.Get = takes.Two
kind_of op.Update = takes.Entry
kind_of op.GetAndUpdate = takes.EntryWithOld
kind_of op.Sha256 = takes.One
