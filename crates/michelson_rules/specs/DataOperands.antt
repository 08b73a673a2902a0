-- Instructions on data: which there are, and what the operands on top of a stack are answered, whatever stands below.
use Rattle.std.specs.Prelude.{◌≡◌, ◌++◌, Bool, true, false, IsTrue, List}
use Rattle.value_core.specs.declared.ty.Ty.{Ty}
use Rattle.value_core.specs.declared.val.Val.{Val}
use Rattle.value_core.specs.Typed.{has_type}
use Rattle.michelson_code.specs.declared.instr.Instr.TheOpen as one
use Rattle.michelson_code.specs.declared.instr.Instr.TheOpen.{Instr-F}
use Rattle.michelson_code.specs.declared.script.Script.{Script}
use Rattle.michelson_code.specs.Typing.{Applies}
use Rattle.michelson_rules.specs.Answers.{Answered}
use Rattle.michelson_rules.specs.TypedStacks.{IsAnswered, StackHas, asks_on}

-- the instructions on data, in the order of their table
abbrev pub is_data : {A : Type 0} → Instr-F A → Bool
is_data one.Pair = true
is_data (one.PairN n) = true
is_data one.Unpair = true
is_data (one.UnpairN n) = true
is_data one.Cons = true
is_data one.Add = true
is_data one.Sub = true
is_data one.SubMutez = true
is_data one.Neg = true
is_data one.Abs = true
is_data one.IsNat = true
is_data one.Int = true
is_data one.Lsl = true
is_data one.Lsr = true
is_data one.And = true
is_data one.Or = true
is_data one.Xor = true
is_data one.Not = true
is_data one.Eq = true
is_data one.Neq = true
is_data one.Lt = true
is_data one.Gt = true
is_data one.Le = true
is_data one.Ge = true
is_data one.Size = true
is_data one.Compare = true
is_data one.Mul = true
is_data one.Ediv = true
is_data one.Concat = true
is_data one.Mem = true
is_data one.Get = true
is_data one.Update = true
is_data one.GetAndUpdate = true
is_data one.Sha256 = true
is_data _ = false

-- values that have types
abbrev pub HasType : Val → Ty → Type 0
HasType v t = IsTrue (has_type v t)

-- operands of these types stand on top of a stack, none of them a big map; the instruction leaves results of those
pub record HasOperands {A : Type 0} (x : Instr-F A) (after : List Ty) (below stack : List Val) : Type 0 where
  pub script : Script
  pub before : List Ty
  pub operands : List Val
  pub applies : Applies script x before after
  pub alone : asks_on x before ≡ false
  pub typed : StackHas HasType operands before
  pub stands : stack ≡ operands ++ below

-- they are answered: results of these types stand in their place, or the run fails, and what is below stays
abbrev pub IsAnsweredAbove : List Val → List Ty → Answered → Type 0
IsAnsweredAbove below after (answer, rest) = (left : List Val) × (rest ≡ left ++ below) × IsAnswered HasType after (answer, left)
