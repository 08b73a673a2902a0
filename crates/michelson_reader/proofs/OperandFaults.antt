-- What is told of an instruction is the fault of its first operand at fault, by the table of forms.
use Rattle.std.proofs.Common.{◌≡◌, ◌≤◌, ℕ, List, [], ◌∷◌, length, map, None, Ok, Err, refl, sym, ap, ◌∙◌, arith}
use Rattle.value_core.specs.declared.ty.Ty.{Ty}
use Rattle.value_core.specs.declared.val.Val.{Val}
use Rattle.micheline_text.specs.declared.node.Node.{Node}
use Rattle.micheline_text.specs.declared.node.Body.TheVariants as body
use Rattle.michelson_code.specs.declared.instr.Instr.{Instr}
use Rattle.michelson_code.specs.declared.instr.Instr.TheOpen as one
use Rattle.michelson_code.specs.declared.instr.Instr.TheOpen.{Instr-F}
use Rattle.michelson_code.specs.declared.instr.Instr.TheVariants as instr
use Rattle.michelson_code.specs.declared.instr.Instr.TheViews.{out-Instr}
use Rattle.michelson_code.specs.Forms.{Operand, form_at, form_of}
use Rattle.michelson_reader.specs.CodeFaults.{alone, applied, code_read, entry, first_found, instruction_read, number, pushed, with_one, with_two}
use Rattle.michelson_reader.specs.Returned.{read_of}
use Rattle.michelson_reader.specs.TypeFaults.{Read, then_read, type_read}
use Rattle.michelson_reader.proofs.FirstAtFault.{fault_in, first_at_fault}
use Rattle.michelson_reader.proofs.NodeReads.{instruction_prim}

-- ---- the faults of one read, of two, and of data at a type that is read

module _ {A B : Type 0} where
  one_read : (r : Read A) (f : A → B) → fault_in (then_read r (λ x. Ok (f x))) ≡ first_found (fault_in r ∷ [])
  one_read (Ok x) f = refl
  one_read (Err e) f = refl

module _ {A B C : Type 0} where
  two_reads : (r : Read A) (s : Read B) (f : A → B → C) → fault_in (then_read r (λ x. then_read s (λ y. Ok (f x y)))) ≡ first_found (fault_in r ∷ fault_in s ∷ [])
  two_reads (Ok x) (Ok y) f = refl
  two_reads (Ok x) (Err e) f = refl
  two_reads (Err e) s f = refl

data_read : (r : Read Ty) (s : Ty → Read Val) → fault_in (then_read r (λ t. then_read (s t) (λ v. Ok (instr.Push t v)))) ≡ first_found (fault_in r ∷ fault_in (then_read r s) ∷ [])
data_read (Ok t) s = of_value (s t)
  where
    of_value : (r : Read Val) → fault_in (then_read r (λ v. Ok (instr.Push t v))) ≡ first_found (None ∷ fault_in r ∷ [])
    of_value (Ok v) = refl
    of_value (Err e) = refl
data_read (Err e) s = refl

-- ---- by the number of operands

no_operand : (os : List (Operand Instr)) → length os ≡ 0 → os ≡ []
no_operand [] none = refl
no_operand (o ∷ os) none = absurd (omega arith)

module _ (at : ℕ) (notes : List (List ℕ)) where
  none_at : (x : Instr-F Instr) → (form_at x).operands ≡ [] → fault_in (alone at (form_at x).word notes) ≡ first_at_fault at notes (form_at x) []
  none_at (one.SelfEntry e) none = one_read (entry at notes) instr.SelfEntry
  none_at _ none = cc

  one_at : (x : Instr-F Instr) (y : Node) → length (form_at x).operands ≡ 1 → fault_in (with_one at (form_at x).word notes (read_of y)) ≡ first_at_fault at notes (form_at x) (y ∷ [])
  one_at (one.DropN n) y few = one_read (number at 0 y) instr.DropN
  one_at (one.DupN n) y few = one_read (number at 1 y) instr.DupN
  one_at (one.Dig n) y few = one_read (number at 0 y) instr.Dig
  one_at (one.Dug n) y few = one_read (number at 0 y) instr.Dug
  one_at (one.PairN n) y few = one_read (number at 2 y) instr.PairN
  one_at (one.UnpairN n) y few = one_read (number at 2 y) instr.UnpairN
  one_at (one.None t) y few = one_read (type_read y) instr.None
  one_at (one.Left t) y few = one_read (type_read y) instr.Left
  one_at (one.Right t) y few = one_read (type_read y) instr.Right
  one_at (one.Nil t) y few = one_read (type_read y) instr.Nil
  one_at (one.Cast t) y few = one_read (type_read y) instr.Cast
  one_at (one.EmptySet t) y few = one_read (type_read y) instr.EmptySet
  one_at (one.Dip c) y few = one_read (code_read y) instr.Dip
  one_at (one.Loop c) y few = one_read (code_read y) instr.Loop
  one_at (one.LoopLeft c) y few = one_read (code_read y) instr.LoopLeft
  one_at (one.Iter c) y few = one_read (code_read y) instr.Iter
  one_at (one.Map c) y few = one_read (code_read y) instr.Map
  one_at (one.Contract e t) y few = two_reads (entry at notes) (type_read y) instr.Contract
  one_at _ y few = absurd (omega arith)

  two_at : (x : Instr-F Instr) (y z : Node) → length (form_at x).operands ≡ 2 → fault_in (with_two at (form_at x).word (read_of y) (read_of z)) ≡ first_at_fault at notes (form_at x) (y ∷ z ∷ [])
  two_at (one.Push t v) y z few = data_read (type_read y) (λ t. pushed t z)
  two_at (one.EmptyMap k v) y z few = two_reads (type_read y) (type_read z) instr.EmptyMap
  two_at (one.DipN n c) y z few = two_reads (number at 0 y) (code_read z) instr.DipN
  two_at (one.If c d) y z few = two_reads (code_read y) (code_read z) instr.If
  two_at (one.IfNone c d) y z few = two_reads (code_read y) (code_read z) instr.IfNone
  two_at (one.IfLeft c d) y z few = two_reads (code_read y) (code_read z) instr.IfLeft
  two_at (one.IfCons c d) y z few = two_reads (code_read y) (code_read z) instr.IfCons
  two_at _ y z few = absurd (omega arith)

  at_most_two : (x : Instr-F Instr) → length (form_at x).operands ≤ 2
  at_most_two one.Drop = omega arith
  at_most_two _ = omega arith

  applied_at : (x : Instr-F Instr) (args : List Node) → length args ≡ length (form_at x).operands → fault_in (applied at (form_at x).word notes (map read_of args)) ≡ first_at_fault at notes (form_at x) args
  applied_at x [] few = none_at x (no_operand (form_at x).operands (sym few))
  applied_at x (y ∷ []) few = one_at x y (sym few)
  applied_at x (y ∷ z ∷ []) few = two_at x y z (sym few)
  applied_at x (y ∷ z ∷ w ∷ more) few = absurd (omega (arith, at_most_two x))

-- an instruction with as many arguments as its form has operands
pub first_fault_is : (i : Instr) (n : Node) (notes : List (List ℕ)) (args : List Node) → n.body ≡ body.Prim (form_of i).word notes args → length args ≡ length (form_of i).operands →
    fault_in (instruction_read n) ≡ first_at_fault n.at notes (form_of i) args
first_fault_is i n notes args is few =
    ap fault_in (instruction_prim n (form_of i).word notes args is) ∙ applied_at n.at notes (out-Instr i) args few
