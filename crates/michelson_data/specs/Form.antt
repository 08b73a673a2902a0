-- Which instruction of a script each operation on data is.
use Rattle.michelson_code.specs.declared.instr.Instr.TheOpen as one
use Rattle.michelson_code.specs.declared.instr.Instr.TheOpen.{Instr-F}
use Rattle.michelson_data.specs.declared.op.DataOp.{DataOp}
use Rattle.michelson_data.specs.declared.op.DataOp.TheVariants as op

-- the form, in the order of the table
abbrev pub form : {A : Type 0} → DataOp → Instr-F A
form op.Pair = one.Pair
form (op.PairN n) = one.PairN n
form op.Unpair = one.Unpair
form (op.UnpairN n) = one.UnpairN n
form op.Cons = one.Cons
form op.Add = one.Add
form op.Sub = one.Sub
form op.SubMutez = one.SubMutez
form op.Neg = one.Neg
form op.Abs = one.Abs
form op.IsNat = one.IsNat
form op.Int = one.Int
form op.Lsl = one.Lsl
form op.Lsr = one.Lsr
form op.And = one.And
form op.Or = one.Or
form op.Xor = one.Xor
form op.Not = one.Not
form op.Eq = one.Eq
form op.Neq = one.Neq
form op.Lt = one.Lt
form op.Gt = one.Gt
form op.Le = one.Le
form op.Ge = one.Ge
form op.Size = one.Size
form op.Compare = one.Compare
form op.Mul = one.Mul
form op.Ediv = one.Ediv
form op.Concat = one.Concat
form op.Mem = one.Mem
form op.Get = one.Get
form op.Update = one.Update
form op.GetAndUpdate = one.GetAndUpdate
form op.Sha256 = one.Sha256
