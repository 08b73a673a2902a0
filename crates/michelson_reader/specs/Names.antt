-- The words that are known outside data, by what stands behind them, and the words that are left out.
use Rattle.std.specs.Prelude.{ℕ, Bool, ◌||◌, List, [], ◌∷◌, ◌++◌, codes, if◌then◌else◌, Option, None, Some}
use Rattle.std.specs.List.{list_any}
use Rattle.std.specs.Str.{bytes_eq}
use Rattle.value_core.specs.declared.ty.Ty.{Ty}
use Rattle.value_core.specs.declared.ty.Ty.TheVariants as type
use Rattle.michelson_code.specs.declared.instr.Instr.{Instr}
use Rattle.michelson_code.specs.declared.instr.Instr.TheVariants as instr
use Rattle.michelson_code.specs.declared.instr.Instr.TheOpen as one
use Rattle.michelson_code.specs.declared.instr.Instr.TheOpen.{Instr-F}
use Rattle.michelson_code.specs.Forms.{Operand, ANumber, form_at}

-- words, each with what it makes
abbrev pub Words : Type 0 → Type 0
Words A = List (List ℕ × A)

-- what a word makes
abbrev pub named : {A : Type 0} → List ℕ → Words A → Option A
named name [] = None
named name (w ∷ words) = if bytes_eq name w.0 then Some w.1 else named name words

-- whether the word is among them
abbrev pub is_in : {A : Type 0} → List ℕ → Words A → Bool
is_in name = list_any (λ w. bytes_eq name w.0)

-- ---- types: alone, with one part, with two

-- alone
abbrev pub plain_types : Words Ty
plain_types =
    (codes "unit", type.Unit) ∷ (codes "bool", type.Bool) ∷ (codes "int", type.Int) ∷ (codes "nat", type.Nat) ∷
    (codes "mutez", type.Mutez) ∷ (codes "timestamp", type.Time) ∷ (codes "string", type.Text) ∷ (codes "bytes", type.Bytes) ∷
    (codes "address", type.Addr) ∷ (codes "operation", type.Operation) ∷ []

-- with one part
abbrev pub types_of_one : Words (Ty → Ty)
types_of_one =
    (codes "option", type.Option) ∷ (codes "list", type.List) ∷ (codes "set", type.Set) ∷ (codes "contract", type.Contract) ∷ []

-- with two
abbrev pub types_of_two : Words (Ty → Ty → Ty)
types_of_two =
    (codes "or", type.Or) ∷ (codes "pair", type.Pair) ∷ (codes "map", type.Map) ∷ (codes "big_map", type.BigMap) ∷ []

-- ---- instructions, with the words and the least numbers of the table of forms: alone, with a number, with a type, with a body, with two

-- a word alone, and what it makes
abbrev pub alone : Instr-F Instr → Instr → List ℕ × Instr
alone x i = ((form_at x).word, i)

-- the least number behind a word
abbrev pub least_of : List (Operand Instr) → ℕ
least_of (ANumber least n ∷ operands) = least
least_of _ = 0

-- a word with a number, its least number, and what it makes of a number
abbrev pub numbered : (ℕ → Instr-F Instr) → (ℕ → Instr) → List ℕ × (ℕ × (ℕ → Instr))
numbered x make = ((form_at (x 0)).word, (least_of (form_at (x 0)).operands, make))

-- a word with a type
abbrev pub typed : (Ty → Instr-F Instr) → (Ty → Instr) → List ℕ × (Ty → Instr)
typed x make = ((form_at (x type.Unit)).word, make)

-- a word with a body
abbrev pub bodied : (List Instr → Instr-F Instr) → (List Instr → Instr) → List ℕ × (List Instr → Instr)
bodied x make = ((form_at (x [])).word, make)

-- a word with two
abbrev pub branched : (List Instr → List Instr → Instr-F Instr) → (List Instr → List Instr → Instr) → List ℕ × (List Instr → List Instr → Instr)
branched x make = ((form_at (x [] [])).word, make)

-- of cost 1 or 2
abbrev pub plain_of_cost_1_or_2 : Words Instr
plain_of_cost_1_or_2 =
    alone one.Drop instr.Drop ∷ alone one.Dup instr.Dup ∷ alone one.Swap instr.Swap ∷ alone one.Unit instr.Unit ∷
    alone one.Pair instr.Pair ∷ alone one.Unpair instr.Unpair ∷ alone one.Car instr.Car ∷ alone one.Cdr instr.Cdr ∷
    alone one.Some instr.Some ∷ alone one.Cons instr.Cons ∷ alone one.Rename instr.Rename ∷
    alone one.Failwith instr.Failwith ∷ []

-- of cost 3
abbrev pub plain_of_cost_3 : Words Instr
plain_of_cost_3 =
    alone one.Add instr.Add ∷ alone one.Sub instr.Sub ∷ alone one.SubMutez instr.SubMutez ∷ alone one.Neg instr.Neg ∷
    alone one.Abs instr.Abs ∷ alone one.IsNat instr.IsNat ∷ alone one.Int instr.Int ∷ alone one.Lsl instr.Lsl ∷
    alone one.Lsr instr.Lsr ∷ alone one.And instr.And ∷ alone one.Or instr.Or ∷ alone one.Xor instr.Xor ∷
    alone one.Not instr.Not ∷ alone one.Eq instr.Eq ∷ alone one.Neq instr.Neq ∷ alone one.Lt instr.Lt ∷
    alone one.Gt instr.Gt ∷ alone one.Le instr.Le ∷ alone one.Ge instr.Ge ∷ alone one.Size instr.Size ∷
    alone one.Amount instr.Amount ∷ alone one.Sender instr.Sender ∷ alone one.Source instr.Source ∷
    alone one.SelfAddress instr.SelfAddress ∷ alone one.Now instr.Now ∷ alone one.Level instr.Level ∷
    alone one.Address instr.Address ∷ []

-- of cost 5 or 10
abbrev pub plain_of_cost_5_or_10 : Words Instr
plain_of_cost_5_or_10 =
    alone one.Compare instr.Compare ∷ alone one.Mul instr.Mul ∷ alone one.Ediv instr.Ediv ∷
    alone one.Concat instr.Concat ∷ alone one.Mem instr.Mem ∷ alone one.Get instr.Get ∷ alone one.Update instr.Update ∷
    alone one.GetAndUpdate instr.GetAndUpdate ∷ alone one.Sha256 instr.Sha256 ∷ alone one.Balance instr.Balance ∷
    alone one.TransferTokens instr.TransferTokens ∷ []

-- alone, but for `SELF`, which may have a name
abbrev pub plain_forms : Words Instr
plain_forms = plain_of_cost_1_or_2 ++ (plain_of_cost_3 ++ plain_of_cost_5_or_10)

-- with a number
abbrev pub forms_of_number : Words (ℕ × (ℕ → Instr))
forms_of_number =
    numbered one.DropN instr.DropN ∷ numbered one.DupN instr.DupN ∷ numbered one.Dig instr.Dig ∷
    numbered one.Dug instr.Dug ∷ numbered one.PairN instr.PairN ∷ numbered one.UnpairN instr.UnpairN ∷ []

-- with a type
abbrev pub forms_of_type : Words (Ty → Instr)
forms_of_type =
    typed one.None instr.None ∷ typed one.Left instr.Left ∷ typed one.Right instr.Right ∷ typed one.Nil instr.Nil ∷
    typed one.Cast instr.Cast ∷ typed one.EmptySet instr.EmptySet ∷ []

-- with a body
abbrev pub forms_of_body : Words (List Instr → Instr)
forms_of_body =
    bodied one.Dip instr.Dip ∷ bodied one.Loop instr.Loop ∷ bodied one.LoopLeft instr.LoopLeft ∷
    bodied one.Iter instr.Iter ∷ bodied one.Map instr.Map ∷ []

-- with two
abbrev pub forms_of_two_bodies : Words (List Instr → List Instr → Instr)
forms_of_two_bodies =
    branched one.If instr.If ∷ branched one.IfNone instr.IfNone ∷ branched one.IfLeft instr.IfLeft ∷
    branched one.IfCons instr.IfCons ∷ []

-- the words with forms of their own: `SELF %e`, `CONTRACT %e t`, `PUSH t v`, `EMPTY_MAP k v`, and `DIP n c` beside `DIP c`
abbrev pub other_forms : List (List ℕ)
other_forms = codes "SELF" ∷ codes "CONTRACT" ∷ codes "PUSH" ∷ codes "EMPTY_MAP" ∷ []

-- a word of a type or of an instruction
abbrev pub is_known : List ℕ → Bool
is_known name =
    is_in name plain_types || is_in name types_of_one || is_in name types_of_two || is_in name plain_forms || is_in name forms_of_number
    || is_in name forms_of_type || is_in name forms_of_body || is_in name forms_of_two_bodies || list_any (bytes_eq name) other_forms

-- words of Michelson that are left out
abbrev pub left_out : List (List ℕ)
left_out =
    codes "LAMBDA" ∷ codes "EXEC" ∷ codes "APPLY" ∷ codes "CREATE_CONTRACT" ∷ codes "SET_DELEGATE" ∷ codes "IMPLICIT_ACCOUNT" ∷ codes "PACK" ∷ codes "UNPACK" ∷
    codes "BLAKE2B" ∷ codes "KECCAK" ∷ codes "SHA512" ∷ codes "SLICE" ∷ codes "NEVER" ∷ codes "CHAIN_ID" ∷ codes "EMPTY_BIG_MAP" ∷ codes "CMPEQ" ∷ []

-- whether the word is one of them
abbrev pub is_left_out : List ℕ → Bool
is_left_out name = list_any (bytes_eq name) left_out
