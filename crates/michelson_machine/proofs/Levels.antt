-- One level of each instruction.
use Rattle.std.proofs.Common.{◌≡◌, ℕ, List, Option, ap, ◌∙◌, rules as std_rules}
use Rattle.value_core.specs.declared.ty.Ty.{Ty}
use Rattle.value_core.specs.declared.val.Val.{Val}
use Rattle.michelson_code.specs.declared.instr.Instr.{Instr}
use Rattle.michelson_code.specs.declared.instr.Instr.TheVariants as instr
use Rattle.michelson_code.specs.declared.instr.Instr.TheOpen as one
use Rattle.michelson_code.specs.declared.instr.Instr.TheViews.{out-Instr, the_lemmas}

pub at-Drop : {i : Instr} → i ≡ instr.Drop → out-Instr i ≡ one.Drop
at-Drop e = let shows : out-Instr instr.Drop ≡ one.Drop = search (std_rules, the_lemmas) in ap out-Instr e ∙ shows

pub at-DropN : {i : Instr} {a : ℕ} → i ≡ instr.DropN a → out-Instr i ≡ one.DropN a
at-DropN {a = a} e = let shows : out-Instr (instr.DropN a) ≡ one.DropN a = search (std_rules, the_lemmas) in ap out-Instr e ∙ shows

pub at-Dup : {i : Instr} → i ≡ instr.Dup → out-Instr i ≡ one.Dup
at-Dup e = let shows : out-Instr instr.Dup ≡ one.Dup = search (std_rules, the_lemmas) in ap out-Instr e ∙ shows

pub at-DupN : {i : Instr} {a : ℕ} → i ≡ instr.DupN a → out-Instr i ≡ one.DupN a
at-DupN {a = a} e = let shows : out-Instr (instr.DupN a) ≡ one.DupN a = search (std_rules, the_lemmas) in ap out-Instr e ∙ shows

pub at-Swap : {i : Instr} → i ≡ instr.Swap → out-Instr i ≡ one.Swap
at-Swap e = let shows : out-Instr instr.Swap ≡ one.Swap = search (std_rules, the_lemmas) in ap out-Instr e ∙ shows

pub at-Dig : {i : Instr} {a : ℕ} → i ≡ instr.Dig a → out-Instr i ≡ one.Dig a
at-Dig {a = a} e = let shows : out-Instr (instr.Dig a) ≡ one.Dig a = search (std_rules, the_lemmas) in ap out-Instr e ∙ shows

pub at-Dug : {i : Instr} {a : ℕ} → i ≡ instr.Dug a → out-Instr i ≡ one.Dug a
at-Dug {a = a} e = let shows : out-Instr (instr.Dug a) ≡ one.Dug a = search (std_rules, the_lemmas) in ap out-Instr e ∙ shows

pub at-Unit : {i : Instr} → i ≡ instr.Unit → out-Instr i ≡ one.Unit
at-Unit e = let shows : out-Instr instr.Unit ≡ one.Unit = search (std_rules, the_lemmas) in ap out-Instr e ∙ shows

pub at-Pair : {i : Instr} → i ≡ instr.Pair → out-Instr i ≡ one.Pair
at-Pair e = let shows : out-Instr instr.Pair ≡ one.Pair = search (std_rules, the_lemmas) in ap out-Instr e ∙ shows

pub at-PairN : {i : Instr} {a : ℕ} → i ≡ instr.PairN a → out-Instr i ≡ one.PairN a
at-PairN {a = a} e = let shows : out-Instr (instr.PairN a) ≡ one.PairN a = search (std_rules, the_lemmas) in ap out-Instr e ∙ shows

pub at-Unpair : {i : Instr} → i ≡ instr.Unpair → out-Instr i ≡ one.Unpair
at-Unpair e = let shows : out-Instr instr.Unpair ≡ one.Unpair = search (std_rules, the_lemmas) in ap out-Instr e ∙ shows

pub at-UnpairN : {i : Instr} {a : ℕ} → i ≡ instr.UnpairN a → out-Instr i ≡ one.UnpairN a
at-UnpairN {a = a} e = let shows : out-Instr (instr.UnpairN a) ≡ one.UnpairN a = search (std_rules, the_lemmas) in ap out-Instr e ∙ shows

pub at-Car : {i : Instr} → i ≡ instr.Car → out-Instr i ≡ one.Car
at-Car e = let shows : out-Instr instr.Car ≡ one.Car = search (std_rules, the_lemmas) in ap out-Instr e ∙ shows

pub at-Cdr : {i : Instr} → i ≡ instr.Cdr → out-Instr i ≡ one.Cdr
at-Cdr e = let shows : out-Instr instr.Cdr ≡ one.Cdr = search (std_rules, the_lemmas) in ap out-Instr e ∙ shows

pub at-Some : {i : Instr} → i ≡ instr.Some → out-Instr i ≡ one.Some
at-Some e = let shows : out-Instr instr.Some ≡ one.Some = search (std_rules, the_lemmas) in ap out-Instr e ∙ shows

pub at-None : {i : Instr} {a : Ty} → i ≡ instr.None a → out-Instr i ≡ one.None a
at-None {a = a} e = let shows : out-Instr (instr.None a) ≡ one.None a = search (std_rules, the_lemmas) in ap out-Instr e ∙ shows

pub at-Left : {i : Instr} {a : Ty} → i ≡ instr.Left a → out-Instr i ≡ one.Left a
at-Left {a = a} e = let shows : out-Instr (instr.Left a) ≡ one.Left a = search (std_rules, the_lemmas) in ap out-Instr e ∙ shows

pub at-Right : {i : Instr} {a : Ty} → i ≡ instr.Right a → out-Instr i ≡ one.Right a
at-Right {a = a} e = let shows : out-Instr (instr.Right a) ≡ one.Right a = search (std_rules, the_lemmas) in ap out-Instr e ∙ shows

pub at-Nil : {i : Instr} {a : Ty} → i ≡ instr.Nil a → out-Instr i ≡ one.Nil a
at-Nil {a = a} e = let shows : out-Instr (instr.Nil a) ≡ one.Nil a = search (std_rules, the_lemmas) in ap out-Instr e ∙ shows

pub at-Cons : {i : Instr} → i ≡ instr.Cons → out-Instr i ≡ one.Cons
at-Cons e = let shows : out-Instr instr.Cons ≡ one.Cons = search (std_rules, the_lemmas) in ap out-Instr e ∙ shows

pub at-Cast : {i : Instr} {a : Ty} → i ≡ instr.Cast a → out-Instr i ≡ one.Cast a
at-Cast {a = a} e = let shows : out-Instr (instr.Cast a) ≡ one.Cast a = search (std_rules, the_lemmas) in ap out-Instr e ∙ shows

pub at-Rename : {i : Instr} → i ≡ instr.Rename → out-Instr i ≡ one.Rename
at-Rename e = let shows : out-Instr instr.Rename ≡ one.Rename = search (std_rules, the_lemmas) in ap out-Instr e ∙ shows

pub at-Push : {i : Instr} {a : Ty} {b : Val} → i ≡ instr.Push a b → out-Instr i ≡ one.Push a b
at-Push {a = a} {b = b} e = let shows : out-Instr (instr.Push a b) ≡ one.Push a b = search (std_rules, the_lemmas) in ap out-Instr e ∙ shows

pub at-Dip : {i : Instr} {a : List Instr} → i ≡ instr.Dip a → out-Instr i ≡ one.Dip a
at-Dip {a = a} e = let shows : out-Instr (instr.Dip a) ≡ one.Dip a = search (std_rules, the_lemmas) in ap out-Instr e ∙ shows

pub at-DipN : {i : Instr} {a : ℕ} {b : List Instr} → i ≡ instr.DipN a b → out-Instr i ≡ one.DipN a b
at-DipN {a = a} {b = b} e = let shows : out-Instr (instr.DipN a b) ≡ one.DipN a b = search (std_rules, the_lemmas) in ap out-Instr e ∙ shows

pub at-If : {i : Instr} {a : List Instr} {b : List Instr} → i ≡ instr.If a b → out-Instr i ≡ one.If a b
at-If {a = a} {b = b} e = let shows : out-Instr (instr.If a b) ≡ one.If a b = search (std_rules, the_lemmas) in ap out-Instr e ∙ shows

pub at-IfNone : {i : Instr} {a : List Instr} {b : List Instr} → i ≡ instr.IfNone a b → out-Instr i ≡ one.IfNone a b
at-IfNone {a = a} {b = b} e = let shows : out-Instr (instr.IfNone a b) ≡ one.IfNone a b = search (std_rules, the_lemmas) in ap out-Instr e ∙ shows

pub at-IfLeft : {i : Instr} {a : List Instr} {b : List Instr} → i ≡ instr.IfLeft a b → out-Instr i ≡ one.IfLeft a b
at-IfLeft {a = a} {b = b} e = let shows : out-Instr (instr.IfLeft a b) ≡ one.IfLeft a b = search (std_rules, the_lemmas) in ap out-Instr e ∙ shows

pub at-IfCons : {i : Instr} {a : List Instr} {b : List Instr} → i ≡ instr.IfCons a b → out-Instr i ≡ one.IfCons a b
at-IfCons {a = a} {b = b} e = let shows : out-Instr (instr.IfCons a b) ≡ one.IfCons a b = search (std_rules, the_lemmas) in ap out-Instr e ∙ shows

pub at-Loop : {i : Instr} {a : List Instr} → i ≡ instr.Loop a → out-Instr i ≡ one.Loop a
at-Loop {a = a} e = let shows : out-Instr (instr.Loop a) ≡ one.Loop a = search (std_rules, the_lemmas) in ap out-Instr e ∙ shows

pub at-LoopLeft : {i : Instr} {a : List Instr} → i ≡ instr.LoopLeft a → out-Instr i ≡ one.LoopLeft a
at-LoopLeft {a = a} e = let shows : out-Instr (instr.LoopLeft a) ≡ one.LoopLeft a = search (std_rules, the_lemmas) in ap out-Instr e ∙ shows

pub at-Iter : {i : Instr} {a : List Instr} → i ≡ instr.Iter a → out-Instr i ≡ one.Iter a
at-Iter {a = a} e = let shows : out-Instr (instr.Iter a) ≡ one.Iter a = search (std_rules, the_lemmas) in ap out-Instr e ∙ shows

pub at-Map : {i : Instr} {a : List Instr} → i ≡ instr.Map a → out-Instr i ≡ one.Map a
at-Map {a = a} e = let shows : out-Instr (instr.Map a) ≡ one.Map a = search (std_rules, the_lemmas) in ap out-Instr e ∙ shows

pub at-EmptySet : {i : Instr} {a : Ty} → i ≡ instr.EmptySet a → out-Instr i ≡ one.EmptySet a
at-EmptySet {a = a} e = let shows : out-Instr (instr.EmptySet a) ≡ one.EmptySet a = search (std_rules, the_lemmas) in ap out-Instr e ∙ shows

pub at-EmptyMap : {i : Instr} {a : Ty} {b : Ty} → i ≡ instr.EmptyMap a b → out-Instr i ≡ one.EmptyMap a b
at-EmptyMap {a = a} {b = b} e = let shows : out-Instr (instr.EmptyMap a b) ≡ one.EmptyMap a b = search (std_rules, the_lemmas) in ap out-Instr e ∙ shows

pub at-Failwith : {i : Instr} → i ≡ instr.Failwith → out-Instr i ≡ one.Failwith
at-Failwith e = let shows : out-Instr instr.Failwith ≡ one.Failwith = search (std_rules, the_lemmas) in ap out-Instr e ∙ shows

pub at-Add : {i : Instr} → i ≡ instr.Add → out-Instr i ≡ one.Add
at-Add e = let shows : out-Instr instr.Add ≡ one.Add = search (std_rules, the_lemmas) in ap out-Instr e ∙ shows

pub at-Sub : {i : Instr} → i ≡ instr.Sub → out-Instr i ≡ one.Sub
at-Sub e = let shows : out-Instr instr.Sub ≡ one.Sub = search (std_rules, the_lemmas) in ap out-Instr e ∙ shows

pub at-SubMutez : {i : Instr} → i ≡ instr.SubMutez → out-Instr i ≡ one.SubMutez
at-SubMutez e = let shows : out-Instr instr.SubMutez ≡ one.SubMutez = search (std_rules, the_lemmas) in ap out-Instr e ∙ shows

pub at-Neg : {i : Instr} → i ≡ instr.Neg → out-Instr i ≡ one.Neg
at-Neg e = let shows : out-Instr instr.Neg ≡ one.Neg = search (std_rules, the_lemmas) in ap out-Instr e ∙ shows

pub at-Abs : {i : Instr} → i ≡ instr.Abs → out-Instr i ≡ one.Abs
at-Abs e = let shows : out-Instr instr.Abs ≡ one.Abs = search (std_rules, the_lemmas) in ap out-Instr e ∙ shows

pub at-IsNat : {i : Instr} → i ≡ instr.IsNat → out-Instr i ≡ one.IsNat
at-IsNat e = let shows : out-Instr instr.IsNat ≡ one.IsNat = search (std_rules, the_lemmas) in ap out-Instr e ∙ shows

pub at-Int : {i : Instr} → i ≡ instr.Int → out-Instr i ≡ one.Int
at-Int e = let shows : out-Instr instr.Int ≡ one.Int = search (std_rules, the_lemmas) in ap out-Instr e ∙ shows

pub at-Lsl : {i : Instr} → i ≡ instr.Lsl → out-Instr i ≡ one.Lsl
at-Lsl e = let shows : out-Instr instr.Lsl ≡ one.Lsl = search (std_rules, the_lemmas) in ap out-Instr e ∙ shows

pub at-Lsr : {i : Instr} → i ≡ instr.Lsr → out-Instr i ≡ one.Lsr
at-Lsr e = let shows : out-Instr instr.Lsr ≡ one.Lsr = search (std_rules, the_lemmas) in ap out-Instr e ∙ shows

pub at-And : {i : Instr} → i ≡ instr.And → out-Instr i ≡ one.And
at-And e = let shows : out-Instr instr.And ≡ one.And = search (std_rules, the_lemmas) in ap out-Instr e ∙ shows

pub at-Or : {i : Instr} → i ≡ instr.Or → out-Instr i ≡ one.Or
at-Or e = let shows : out-Instr instr.Or ≡ one.Or = search (std_rules, the_lemmas) in ap out-Instr e ∙ shows

pub at-Xor : {i : Instr} → i ≡ instr.Xor → out-Instr i ≡ one.Xor
at-Xor e = let shows : out-Instr instr.Xor ≡ one.Xor = search (std_rules, the_lemmas) in ap out-Instr e ∙ shows

pub at-Not : {i : Instr} → i ≡ instr.Not → out-Instr i ≡ one.Not
at-Not e = let shows : out-Instr instr.Not ≡ one.Not = search (std_rules, the_lemmas) in ap out-Instr e ∙ shows

pub at-Eq : {i : Instr} → i ≡ instr.Eq → out-Instr i ≡ one.Eq
at-Eq e = let shows : out-Instr instr.Eq ≡ one.Eq = search (std_rules, the_lemmas) in ap out-Instr e ∙ shows

pub at-Neq : {i : Instr} → i ≡ instr.Neq → out-Instr i ≡ one.Neq
at-Neq e = let shows : out-Instr instr.Neq ≡ one.Neq = search (std_rules, the_lemmas) in ap out-Instr e ∙ shows

pub at-Lt : {i : Instr} → i ≡ instr.Lt → out-Instr i ≡ one.Lt
at-Lt e = let shows : out-Instr instr.Lt ≡ one.Lt = search (std_rules, the_lemmas) in ap out-Instr e ∙ shows

pub at-Gt : {i : Instr} → i ≡ instr.Gt → out-Instr i ≡ one.Gt
at-Gt e = let shows : out-Instr instr.Gt ≡ one.Gt = search (std_rules, the_lemmas) in ap out-Instr e ∙ shows

pub at-Le : {i : Instr} → i ≡ instr.Le → out-Instr i ≡ one.Le
at-Le e = let shows : out-Instr instr.Le ≡ one.Le = search (std_rules, the_lemmas) in ap out-Instr e ∙ shows

pub at-Ge : {i : Instr} → i ≡ instr.Ge → out-Instr i ≡ one.Ge
at-Ge e = let shows : out-Instr instr.Ge ≡ one.Ge = search (std_rules, the_lemmas) in ap out-Instr e ∙ shows

pub at-Size : {i : Instr} → i ≡ instr.Size → out-Instr i ≡ one.Size
at-Size e = let shows : out-Instr instr.Size ≡ one.Size = search (std_rules, the_lemmas) in ap out-Instr e ∙ shows

pub at-Amount : {i : Instr} → i ≡ instr.Amount → out-Instr i ≡ one.Amount
at-Amount e = let shows : out-Instr instr.Amount ≡ one.Amount = search (std_rules, the_lemmas) in ap out-Instr e ∙ shows

pub at-Sender : {i : Instr} → i ≡ instr.Sender → out-Instr i ≡ one.Sender
at-Sender e = let shows : out-Instr instr.Sender ≡ one.Sender = search (std_rules, the_lemmas) in ap out-Instr e ∙ shows

pub at-Source : {i : Instr} → i ≡ instr.Source → out-Instr i ≡ one.Source
at-Source e = let shows : out-Instr instr.Source ≡ one.Source = search (std_rules, the_lemmas) in ap out-Instr e ∙ shows

pub at-SelfAddress : {i : Instr} → i ≡ instr.SelfAddress → out-Instr i ≡ one.SelfAddress
at-SelfAddress e = let shows : out-Instr instr.SelfAddress ≡ one.SelfAddress = search (std_rules, the_lemmas) in ap out-Instr e ∙ shows

pub at-Now : {i : Instr} → i ≡ instr.Now → out-Instr i ≡ one.Now
at-Now e = let shows : out-Instr instr.Now ≡ one.Now = search (std_rules, the_lemmas) in ap out-Instr e ∙ shows

pub at-Level : {i : Instr} → i ≡ instr.Level → out-Instr i ≡ one.Level
at-Level e = let shows : out-Instr instr.Level ≡ one.Level = search (std_rules, the_lemmas) in ap out-Instr e ∙ shows

pub at-SelfEntry : {i : Instr} {a : Option (List ℕ)} → i ≡ instr.SelfEntry a → out-Instr i ≡ one.SelfEntry a
at-SelfEntry {a = a} e = let shows : out-Instr (instr.SelfEntry a) ≡ one.SelfEntry a = search (std_rules, the_lemmas) in ap out-Instr e ∙ shows

pub at-Address : {i : Instr} → i ≡ instr.Address → out-Instr i ≡ one.Address
at-Address e = let shows : out-Instr instr.Address ≡ one.Address = search (std_rules, the_lemmas) in ap out-Instr e ∙ shows

pub at-Compare : {i : Instr} → i ≡ instr.Compare → out-Instr i ≡ one.Compare
at-Compare e = let shows : out-Instr instr.Compare ≡ one.Compare = search (std_rules, the_lemmas) in ap out-Instr e ∙ shows

pub at-Mul : {i : Instr} → i ≡ instr.Mul → out-Instr i ≡ one.Mul
at-Mul e = let shows : out-Instr instr.Mul ≡ one.Mul = search (std_rules, the_lemmas) in ap out-Instr e ∙ shows

pub at-Ediv : {i : Instr} → i ≡ instr.Ediv → out-Instr i ≡ one.Ediv
at-Ediv e = let shows : out-Instr instr.Ediv ≡ one.Ediv = search (std_rules, the_lemmas) in ap out-Instr e ∙ shows

pub at-Concat : {i : Instr} → i ≡ instr.Concat → out-Instr i ≡ one.Concat
at-Concat e = let shows : out-Instr instr.Concat ≡ one.Concat = search (std_rules, the_lemmas) in ap out-Instr e ∙ shows

pub at-Mem : {i : Instr} → i ≡ instr.Mem → out-Instr i ≡ one.Mem
at-Mem e = let shows : out-Instr instr.Mem ≡ one.Mem = search (std_rules, the_lemmas) in ap out-Instr e ∙ shows

pub at-Get : {i : Instr} → i ≡ instr.Get → out-Instr i ≡ one.Get
at-Get e = let shows : out-Instr instr.Get ≡ one.Get = search (std_rules, the_lemmas) in ap out-Instr e ∙ shows

pub at-Update : {i : Instr} → i ≡ instr.Update → out-Instr i ≡ one.Update
at-Update e = let shows : out-Instr instr.Update ≡ one.Update = search (std_rules, the_lemmas) in ap out-Instr e ∙ shows

pub at-GetAndUpdate : {i : Instr} → i ≡ instr.GetAndUpdate → out-Instr i ≡ one.GetAndUpdate
at-GetAndUpdate e = let shows : out-Instr instr.GetAndUpdate ≡ one.GetAndUpdate = search (std_rules, the_lemmas) in ap out-Instr e ∙ shows

pub at-Sha256 : {i : Instr} → i ≡ instr.Sha256 → out-Instr i ≡ one.Sha256
at-Sha256 e = let shows : out-Instr instr.Sha256 ≡ one.Sha256 = search (std_rules, the_lemmas) in ap out-Instr e ∙ shows

pub at-Balance : {i : Instr} → i ≡ instr.Balance → out-Instr i ≡ one.Balance
at-Balance e = let shows : out-Instr instr.Balance ≡ one.Balance = search (std_rules, the_lemmas) in ap out-Instr e ∙ shows

pub at-Contract : {i : Instr} {a : Option (List ℕ)} {b : Ty} → i ≡ instr.Contract a b → out-Instr i ≡ one.Contract a b
at-Contract {a = a} {b = b} e = let shows : out-Instr (instr.Contract a b) ≡ one.Contract a b = search (std_rules, the_lemmas) in ap out-Instr e ∙ shows

pub at-TransferTokens : {i : Instr} → i ≡ instr.TransferTokens → out-Instr i ≡ one.TransferTokens
at-TransferTokens e = let shows : out-Instr instr.TransferTokens ≡ one.TransferTokens = search (std_rules, the_lemmas) in ap out-Instr e ∙ shows
