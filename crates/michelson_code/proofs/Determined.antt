-- An instruction is determined by its word, the name of its entry and its operands.
use Rattle.std.proofs.Common.{◌≡◌, ◌↔◌, ℕ, Bool, List, [], ◌∷◌, length, nat_eq, Option, None, Some, refl, ap, sym, ◌∙◌}
use Rattle.std.specs.Prelude.{◌&&◌, if◌then◌else◌}
use Rattle.std.specs.Str.{bytes_eq}
use Rattle.value_core.specs.declared.ty.Ty.{Ty}
use Rattle.value_core.specs.declared.ty.Ty.TheVariants as kind
use Rattle.value_core.specs.declared.val.Val.{Val}
use Rattle.value_core.specs.declared.val.Val.TheVariants as value
use Rattle.michelson_code.specs.declared.instr.Instr.{Instr}
use Rattle.michelson_code.specs.declared.instr.Instr.TheOpen as one
use Rattle.michelson_code.specs.declared.instr.Instr.TheOpen.{Instr-F}
use Rattle.michelson_code.specs.declared.instr.Instr.TheViews.{out-Instr, roll-Instr, roll-out-Instr}
use Rattle.michelson_code.specs.Forms.{AreWrittenAlike, Form, Operand, ANumber, AType, SomeData, bodies, form_at, form_of}
use Rattle.michelson_code.specs.Shown.{HaveSameWord}

abbrev entry_or_none : Option (Option (List ℕ)) → Option (List ℕ)
entry_or_none None = None
entry_or_none (Some e) = e

module _ {A : Type 0} where
  -- the number, the types, the data and the bodies among operands, or any where there is none

  abbrev number_in : List (Operand A) → ℕ
  number_in (ANumber least n ∷ os) = n
  number_in _ = 0

  abbrev type_in : List (Operand A) → Ty
  type_in (AType t ∷ os) = t
  type_in _ = kind.Unit

  abbrev behind : List (Operand A) → List (Operand A)
  behind [] = []
  behind (o ∷ os) = os

  abbrev value_in : List (Operand A) → Val
  value_in (SomeData t v ∷ os) = v
  value_in _ = value.Unit

  abbrev first : List (List A) → List A
  first [] = []
  first (c ∷ cs) = c

  abbrev second : List (List A) → List A
  second [] = []
  second (c ∷ cs) = first cs

  -- each form, with these behind its word
  abbrev forms : Option (List ℕ) → ℕ → Ty → Ty → Val → List A → List A → List (Instr-F A)
  forms e n t u v c d =
      one.Drop ∷ (one.DropN n) ∷ one.Dup ∷ (one.DupN n) ∷ one.Swap ∷ (one.Dig n) ∷ (one.Dug n) ∷ one.Unit ∷ one.Pair ∷
      (one.PairN n) ∷ one.Unpair ∷ (one.UnpairN n) ∷ one.Car ∷ one.Cdr ∷ one.Some ∷ (one.None t) ∷ (one.Left t) ∷
      (one.Right t) ∷ (one.Nil t) ∷ one.Cons ∷ (one.Cast t) ∷ one.Rename ∷ (one.Push t v) ∷ (one.Dip c) ∷
      (one.DipN n c) ∷ (one.If c d) ∷ (one.IfNone c d) ∷ (one.IfLeft c d) ∷ (one.IfCons c d) ∷ (one.Loop c) ∷
      (one.LoopLeft c) ∷ (one.Iter c) ∷ (one.Map c) ∷ (one.EmptySet t) ∷ (one.EmptyMap t u) ∷ one.Failwith ∷ one.Add ∷
      one.Sub ∷ one.SubMutez ∷ one.Neg ∷ one.Abs ∷ one.IsNat ∷ one.Int ∷ one.Lsl ∷ one.Lsr ∷ one.And ∷ one.Or ∷ one.Xor ∷
      one.Not ∷ one.Eq ∷ one.Neq ∷ one.Lt ∷ one.Gt ∷ one.Le ∷ one.Ge ∷ one.Size ∷ one.Amount ∷ one.Sender ∷ one.Source ∷
      one.SelfAddress ∷ one.Now ∷ one.Level ∷ (one.SelfEntry e) ∷ one.Address ∷ one.Compare ∷ one.Mul ∷ one.Ediv ∷
      one.Concat ∷ one.Mem ∷ one.Get ∷ one.Update ∷ one.GetAndUpdate ∷ one.Sha256 ∷ one.Balance ∷ (one.Contract e t) ∷
      one.TransferTokens ∷ []

  abbrev is_like : List ℕ → List (Operand A) → Instr-F A → Bool
  is_like word os x = bytes_eq word (form_at x).word && nat_eq (length os) (length (form_at x).operands)

  abbrev first_like : List ℕ → List (Operand A) → List (Instr-F A) → Instr-F A
  first_like word os [] = one.Drop
  first_like word os (x ∷ xs) = if is_like word os x then x else first_like word os xs

  -- the form of the word with as many operands, with these
  abbrev rebuilt : List ℕ → Option (Option (List ℕ)) → List (Operand A) → Instr-F A
  rebuilt word e os =
      first_like word os (forms (entry_or_none e) (number_in os) (type_in os) (type_in (behind os)) (value_in (behind os)) (first (bodies os)) (second (bodies os)))

  rebuilt-is : (x : Instr-F A) → rebuilt (form_at x).word (form_at x).entry (form_at x).operands ≡ x
  rebuilt-is one.Drop = refl
  rebuilt-is _ = refl

pub determined : (a b : Instr) → AreWrittenAlike a b → a ≡ b
determined a b alike =
    sym (roll-out-Instr a)
    ∙ ap roll-Instr (sym (rebuilt-is (out-Instr a)) ∙ (λ i. rebuilt (alike.0 i) (alike.1 i) (alike.2 i)) ∙ rebuilt-is (out-Instr b))
    ∙ roll-out-Instr b

-- where two forms have one word and one entry's name, their instructions are equal exactly where their operands are
pub same_by_operands : (a b : Instr) (f g : Form Instr) → f ≡ form_of a → g ≡ form_of b → HaveSameWord f g →
    (f.operands ≡ g.operands) ↔ (a ≡ b)
same_by_operands a b f g of_a of_b alike = (
  λ operands. determined a b (
    sym (ap (λ (h : Form Instr). h.word) of_a) ∙ alike.0 ∙ ap (λ (h : Form Instr). h.word) of_b,
    sym (ap (λ (h : Form Instr). h.entry) of_a) ∙ alike.1 ∙ ap (λ (h : Form Instr). h.entry) of_b,
    sym (ap (λ (h : Form Instr). h.operands) of_a) ∙ operands ∙ ap (λ (h : Form Instr). h.operands) of_b,
  ),
  λ same. ap (λ (h : Form Instr). h.operands) of_a ∙ ap (λ i. (form_of i).operands) same ∙ sym (ap (λ (h : Form Instr). h.operands) of_b),
)
