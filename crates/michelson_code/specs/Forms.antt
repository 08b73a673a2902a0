-- The table of forms: how each instruction is written and what it costs, one line for each form.
use Rattle.std.specs.Prelude.{◌≡◌, ℕ, List, [], ◌∷◌, Option, None, Some, codes}
use Rattle.value_core.specs.declared.ty.Ty.{Ty}
use Rattle.value_core.specs.declared.val.Val.{Val}
use Rattle.michelson_code.specs.declared.instr.Instr.{Instr}
use Rattle.michelson_code.specs.declared.instr.Instr.TheOpen as one
use Rattle.michelson_code.specs.declared.instr.Instr.TheOpen.{Instr-F}
use Rattle.michelson_code.specs.declared.instr.Instr.TheViews.{out-Instr}

-- what stands behind a word: a number that isn't below the least, a type, data of a type, a code in braces
pub data Operand (A : Type 0) : Type 0 where
  ANumber : ℕ → ℕ → Operand A
  AType : Ty → Operand A
  SomeData : Ty → Val → Operand A
  ACode : List A → Operand A

-- a word, the gas that it costs, for some words the name of an entry or none, and what stands behind it
pub record Form (A : Type 0) : Type 0 where
  pub word : List ℕ
  pub cost : ℕ
  pub entry : Option (Option (List ℕ))
  pub operands : List (Operand A)

module _ {A : Type 0} where
  -- a word that takes no entry's name
  abbrev pub form : List ℕ → ℕ → List (Operand A) → Form A
  form word cost operands = record { word = word; cost = cost; entry = None; operands = operands }

  -- a word that takes one, or none
  abbrev pub entered : List ℕ → ℕ → Option (List ℕ) → List (Operand A) → Form A
  entered word cost entry operands = record { word = word; cost = cost; entry = Some entry; operands = operands }

  -- one level of an instruction, with an A in the place of each instruction of a body
  abbrev pub form_at : Instr-F A → Form A
  form_at one.Drop = form (codes "DROP") 1 []
  form_at (one.DropN n) = form (codes "DROP") 1 (ANumber 0 n ∷ [])
  form_at one.Dup = form (codes "DUP") 1 []
  form_at (one.DupN n) = form (codes "DUP") 1 (ANumber 1 n ∷ [])
  form_at one.Swap = form (codes "SWAP") 1 []
  form_at (one.Dig n) = form (codes "DIG") 1 (ANumber 0 n ∷ [])
  form_at (one.Dug n) = form (codes "DUG") 1 (ANumber 0 n ∷ [])
  form_at one.Unit = form (codes "UNIT") 1 []
  form_at one.Pair = form (codes "PAIR") 1 []
  form_at (one.PairN n) = form (codes "PAIR") 1 (ANumber 2 n ∷ [])
  form_at one.Unpair = form (codes "UNPAIR") 1 []
  form_at (one.UnpairN n) = form (codes "UNPAIR") 1 (ANumber 2 n ∷ [])
  form_at one.Car = form (codes "CAR") 1 []
  form_at one.Cdr = form (codes "CDR") 1 []
  form_at one.Some = form (codes "SOME") 1 []
  form_at (one.None t) = form (codes "NONE") 1 (AType t ∷ [])
  form_at (one.Left t) = form (codes "LEFT") 1 (AType t ∷ [])
  form_at (one.Right t) = form (codes "RIGHT") 1 (AType t ∷ [])
  form_at (one.Nil t) = form (codes "NIL") 1 (AType t ∷ [])
  form_at one.Cons = form (codes "CONS") 1 []
  form_at (one.Cast t) = form (codes "CAST") 1 (AType t ∷ [])
  form_at one.Rename = form (codes "RENAME") 1 []
  form_at (one.Push t v) = form (codes "PUSH") 2 (AType t ∷ SomeData t v ∷ [])
  form_at (one.Dip c) = form (codes "DIP") 2 (ACode c ∷ [])
  form_at (one.DipN n c) = form (codes "DIP") 2 (ANumber 0 n ∷ ACode c ∷ [])
  form_at (one.If c d) = form (codes "IF") 2 (ACode c ∷ ACode d ∷ [])
  form_at (one.IfNone c d) = form (codes "IF_NONE") 2 (ACode c ∷ ACode d ∷ [])
  form_at (one.IfLeft c d) = form (codes "IF_LEFT") 2 (ACode c ∷ ACode d ∷ [])
  form_at (one.IfCons c d) = form (codes "IF_CONS") 2 (ACode c ∷ ACode d ∷ [])
  form_at (one.Loop c) = form (codes "LOOP") 2 (ACode c ∷ [])
  form_at (one.LoopLeft c) = form (codes "LOOP_LEFT") 2 (ACode c ∷ [])
  form_at (one.Iter c) = form (codes "ITER") 2 (ACode c ∷ [])
  form_at (one.Map c) = form (codes "MAP") 2 (ACode c ∷ [])
  form_at (one.EmptySet t) = form (codes "EMPTY_SET") 2 (AType t ∷ [])
  form_at (one.EmptyMap k v) = form (codes "EMPTY_MAP") 2 (AType k ∷ AType v ∷ [])
  form_at one.Failwith = form (codes "FAILWITH") 2 []
  form_at one.Add = form (codes "ADD") 3 []
  form_at one.Sub = form (codes "SUB") 3 []
  form_at one.SubMutez = form (codes "SUB_MUTEZ") 3 []
  form_at one.Neg = form (codes "NEG") 3 []
  form_at one.Abs = form (codes "ABS") 3 []
  form_at one.IsNat = form (codes "ISNAT") 3 []
  form_at one.Int = form (codes "INT") 3 []
  form_at one.Lsl = form (codes "LSL") 3 []
  form_at one.Lsr = form (codes "LSR") 3 []
  form_at one.And = form (codes "AND") 3 []
  form_at one.Or = form (codes "OR") 3 []
  form_at one.Xor = form (codes "XOR") 3 []
  form_at one.Not = form (codes "NOT") 3 []
  form_at one.Eq = form (codes "EQ") 3 []
  form_at one.Neq = form (codes "NEQ") 3 []
  form_at one.Lt = form (codes "LT") 3 []
  form_at one.Gt = form (codes "GT") 3 []
  form_at one.Le = form (codes "LE") 3 []
  form_at one.Ge = form (codes "GE") 3 []
  form_at one.Size = form (codes "SIZE") 3 []
  form_at one.Amount = form (codes "AMOUNT") 3 []
  form_at one.Sender = form (codes "SENDER") 3 []
  form_at one.Source = form (codes "SOURCE") 3 []
  form_at one.SelfAddress = form (codes "SELF_ADDRESS") 3 []
  form_at one.Now = form (codes "NOW") 3 []
  form_at one.Level = form (codes "LEVEL") 3 []
  form_at (one.SelfEntry e) = entered (codes "SELF") 3 e []
  form_at one.Address = form (codes "ADDRESS") 3 []
  form_at one.Compare = form (codes "COMPARE") 5 []
  form_at one.Mul = form (codes "MUL") 5 []
  form_at one.Ediv = form (codes "EDIV") 5 []
  form_at one.Concat = form (codes "CONCAT") 5 []
  form_at one.Mem = form (codes "MEM") 10 []
  form_at one.Get = form (codes "GET") 10 []
  form_at one.Update = form (codes "UPDATE") 10 []
  form_at one.GetAndUpdate = form (codes "GET_AND_UPDATE") 10 []
  form_at one.Sha256 = form (codes "SHA256") 10 []
  form_at one.Balance = form (codes "BALANCE") 10 []
  form_at (one.Contract e t) = entered (codes "CONTRACT") 10 e (AType t ∷ [])
  form_at one.TransferTokens = form (codes "TRANSFER_TOKENS") 10 []

  -- the bodies among operands, from the left
  abbrev pub bodies : List (Operand A) → List (List A)
  bodies [] = []
  bodies (ACode c ∷ operands) = c ∷ bodies operands
  bodies (operand ∷ operands) = bodies operands

-- the form of an instruction
abbrev pub form_of : Instr → Form Instr
form_of i = form_at (out-Instr i)

-- the gas that an instruction costs, without its bodies
abbrev pub cost_of : Instr → ℕ
cost_of i = (form_of i).cost

-- the bodies of an instruction
abbrev pub bodies_of : Instr → List (List Instr)
bodies_of i = bodies (form_of i).operands

-- two instructions are written alike: by the same word, name of an entry and operands
abbrev pub AreWrittenAlike : Instr → Instr → Type 0
AreWrittenAlike a b =
    ((form_of a).word ≡ (form_of b).word) × ((form_of a).entry ≡ (form_of b).entry) × ((form_of a).operands ≡ (form_of b).operands)
