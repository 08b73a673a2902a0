-- What is read of a node as an instruction, or as a code, is told by its first fault.
use Rattle.std.proofs.Common.{◌≡◌, inl, inr, ℕ, Bool, true, false, List, [], ◌∷◌, length, map, Option, None, Some, Ok, Err, refl, ap, sym, subst, ◌∙◌}
use Rattle.std.specs.Prelude.{◌&&◌, IsTrue, if◌then◌else◌, int_le, nat_abs, pos}
use Rattle.value_core.specs.declared.ty.Ty.{Ty}
use Rattle.micheline_text.specs.declared.node.Node.{Node}
use Rattle.micheline_text.specs.declared.node.Body.TheVariants as variant
use Rattle.micheline_text.specs.declared.node.Body.TheVariants.{rolls-Prim, rolls-Seq}
use Rattle.micheline_text.specs.declared.node.Body.TheOpen as body
use Rattle.micheline_text.specs.declared.node.Body.TheViews.{out-Body, roll-Body}
use Rattle.michelson_code.specs.declared.instr.Instr.{Instr}
use Rattle.michelson_code.specs.declared.instr.Instr.TheOpen as one
use Rattle.michelson_code.specs.declared.instr.Instr.TheOpen.{Instr-F}
use Rattle.michelson_code.specs.declared.instr.Instr.TheViews.{out-Instr}
use Rattle.michelson_code.specs.Forms.{Operand, ANumber, AType, SomeData, ACode, form_at, form_of}
use Rattle.michelson_reader.specs.declared.fault.ReadFault.{ReadFault}
use Rattle.michelson_reader.specs.declared.fault.ReadFault.TheVariants as fault
use Rattle.michelson_reader.specs.CodeFaults.{code_at, code_read, entry, first_found, instruction_at, instruction_read, number, number_body, pushed}
use Rattle.michelson_reader.specs.Entries.{entry_in}
use Rattle.michelson_reader.specs.FaultyNodes.{HasNoForm, IsNoCode, IsNoInstruction, IsNoNumber, IsOfForm, IsOutOfRange, IsUnfitFor, Level, level_fault, word_fault}
use Rattle.michelson_reader.specs.FirstFault.{AreOperands, Part, operand_parts, parts_as}
use Rattle.michelson_reader.specs.Roles.{AsCode, AsInstruction, AsNumber, IsFaulty}
use Rattle.michelson_reader.specs.PushedFault.{nodes_in}
use Rattle.michelson_reader.specs.TypeFaults.{Read, then_read, type_read}
use Rattle.michelson_reader.specs.Types.{is_type}
use Rattle.michelson_reader.proofs.FirstAtFault.{entry_fault, fault_in, first_at_fault, operand_faults}
use Rattle.michelson_reader.proofs.CodeLevels.{code_read-level, instruction_read-level, readers}
use Rattle.michelson_reader.proofs.FirstParts.{InParts, Tells, first_part_told, no_part}
use Rattle.michelson_reader.proofs.FormShapes.{form_or_none, is_known_word, none_unfit, parts_are}
use Rattle.michelson_reader.proofs.MissingForms.{code_fault_is, missing_form_is}
use Rattle.michelson_reader.proofs.NodeInduction.{Each, induction, parts_of, roll-out}
use Rattle.michelson_reader.proofs.NodeReads.{code_prim}
use Rattle.michelson_reader.proofs.OperandFaults.{first_fault_is}
use Rattle.michelson_reader.proofs.PushedTold.{pushed_told}
use Rattle.michelson_reader.proofs.RolesTold.{InPart, IsToldBy, each_told, itself_told, known_fault, level_sound, level_told, parts_told, read_of_none, word_told}
use Rattle.michelson_reader.proofs.TypeLaws.{type-read}
use Rattle.michelson_reader.proofs.TypesTold.{type_told}

pub shown_prim : (n : Node) (name : List ℕ) (notes : List (List ℕ)) (args : List Node) → out-Body n.body ≡ body.Prim name notes args → n.body ≡ variant.Prim name notes args
shown_prim n name notes args is = sym (roll-out n.body) ∙ ap roll-Body is ∙ rolls-Prim name notes args

shown_seq : (n : Node) (ns : List Node) → out-Body n.body ≡ body.Seq ns → n.body ≡ variant.Seq ns
shown_seq n ns is = sym (roll-out n.body) ∙ ap roll-Body is ∙ rolls-Seq ns

-- ---- numbers

module _ (least at : ℕ) (n : Node) where
  no_part_of : (i : ℕ) (p : List ℕ) (f : ReadFault) → InPart (AsNumber least at, n) (i ∷ p) f → ⊥
  no_part_of i p f s = s.1

  sound_number : ((f : ReadFault) → IsFaulty (AsNumber least at) n f → ⊥) → (p : List ℕ) (f : ReadFault) → InPart (AsNumber least at, n) p f → ⊥
  sound_number none [] f s = none f s
  sound_number none (i ∷ p) f s = no_part_of i p f s

  no_number : (b : Level) → out-Body n.body ≡ b → IsNoNumber b → ((s : IsOutOfRange least b) → ⊥) → IsToldBy (AsNumber least at) n (Some (level_fault n.at b))
  no_number b is out within =
      itself_told (AsNumber least at) n (level_fault n.at b) (rw is (inl (out, refl))) (λ g s. let there = rw is at s in elim there [
        | inl own ↦ sym own.1
        | inr range ↦ absurd (within range.0)
      ])

  in_range : (z : _) (b : Bool) → out-Body n.body ≡ body.Int z → (int_le (pos least) z && int_le z (pos 65535)) ≡ b →
      IsToldBy (AsNumber least at) n (fault_in {A = ℕ} (if b then Ok (nat_abs z) else Err (fault.Arity at)))
  in_range z true is within = sound_number (λ f s. let there = rw is at s in elim there [ inl isnt ↦ isnt.0 | inr out ↦ absurd (let isnt = out.0 in cc) ])
  in_range z false is out =
      itself_told (AsNumber least at) n (fault.Arity at) (rw is (inr (out, refl))) (λ g s. let there = rw is at s in elim there [
        | inl isnt ↦ absurd isnt.0
        | inr range ↦ sym range.1
      ])

  number_at : (b : Level) → out-Body n.body ≡ b → IsToldBy (AsNumber least at) n (fault_in (number_body at least n.at b))
  number_at (body.Int z) is = in_range z (int_le (pos least) z && int_le z (pos 65535)) is refl
  number_at (body.Prim name notes args) is =
      subst (IsToldBy (AsNumber least at) n) (sym (word_told n.at name (number_body at least n.at (body.Prim name notes args)) refl))
      (no_number (body.Prim name notes args) is tt (λ s. s))
  number_at (body.Text s) is = no_number (body.Text s) is tt (λ s. s)
  number_at (body.Bytes s) is = no_number (body.Bytes s) is tt (λ s. s)
  number_at (body.Seq ns) is = no_number (body.Seq ns) is tt (λ s. s)

  number_told : IsToldBy (AsNumber least at) n (fault_in (number at least n))
  number_told = number_at (out-Body n.body) refl

-- ---- operands

abbrev CodeTold : Node → Type 0
CodeTold n = IsToldBy AsCode n (fault_in (code_read n))

abbrev InstructionTold : Node → Type 0
InstructionTold n = IsToldBy AsInstruction n (fault_in (instruction_read n))

-- data stands behind a type
abbrev IsPlaced : Bool → List (Operand Instr) → Type 0
IsPlaced typed [] = Unit {0}
IsPlaced typed (SomeData t v ∷ os) = (typed ≡ true) × IsPlaced false os
IsPlaced typed (AType t ∷ os) = IsPlaced true os
IsPlaced typed (ANumber least n ∷ os) = IsPlaced false os
IsPlaced typed (ACode c ∷ os) = IsPlaced false os

placed : (x : Instr-F Instr) → IsPlaced false (form_at x).operands
placed (one.Push t v) = (refl, tt)
placed _ = tt

-- what is read of the node before is its type, where it is one
abbrev IsBefore : Bool → Node → Read Ty → Type 0
IsBefore typed before r = typed ≡ true → (u : Ty) × (r ≡ Ok u) × IsTrue (is_type u before)

module _ (at : ℕ) where
  no_type : (before : Node) (r : Read Ty) → IsBefore false before r
  no_type before r isnt = absurd cc

  was_type : (x : Node) → fault_in (type_read x) ≡ None → IsBefore true x (type_read x)
  was_type x none typed = let t = read_of_none (type_read x) none in (t.0, t.1, (type-read x t.0).0 t.1)

  operands_told : (before : Node) (r : Read Ty) (typed : Bool) (os : List (Operand Instr)) (args : List Node) → IsPlaced typed os → IsBefore typed before r → Each CodeTold args →
      Tells (InParts InPart (operand_parts at before os args)) (first_found (operand_faults at r os args))
  operands_told before r typed [] args p b h = no_part InPart
  operands_told before r typed (o ∷ os) [] p b h = no_part InPart
  operands_told before r typed (ANumber least k ∷ os) (x ∷ args) p b h =
      first_part_told InPart (AsNumber least at, x) (operand_parts at x os args) (fault_in (number at least x)) (operand_faults at (type_read x) os args) (number_told least at x)
      (λ none. operands_told x (type_read x) false os args p (no_type x (type_read x)) h.1)
  operands_told before r typed (AType t ∷ os) (x ∷ args) p b h =
      first_part_told InPart (_, x) (operand_parts at x os args) (fault_in (type_read x)) (operand_faults at (type_read x) os args) (type_told x)
      (λ none. operands_told x (type_read x) true os args p (was_type x none) h.1)
  operands_told before r typed (SomeData t v ∷ os) (x ∷ args) p b h =
      let known = b p.0 in
      let read : fault_in (then_read r (λ u. pushed u x)) ≡ fault_in (pushed known.0 x) = ap (λ (q : Read Ty). fault_in (then_read q (λ u. pushed u x))) known.1 in
      first_part_told InPart (_, x) (operand_parts at x os args) (fault_in (then_read r (λ u. pushed u x))) (operand_faults at (type_read x) os args)
      (subst (IsToldBy _ x) (sym read) (pushed_told before x known.0 known.2))
      (λ none. operands_told x (type_read x) false os args p.1 (no_type x (type_read x)) h.1)
  operands_told before r typed (ACode c ∷ os) (x ∷ args) p b h =
      first_part_told InPart (AsCode, x) (operand_parts at x os args) (fault_in (code_read x)) (operand_faults at (type_read x) os args) h.0
      (λ none. operands_told x (type_read x) false os args p (no_type x (type_read x)) h.1)

-- ---- instructions

module _ (n : Node) (name : List ℕ) (notes : List (List ℕ)) (args : List Node) (is : out-Body n.body ≡ body.Prim name notes args) where
  word_itself : IsNoInstruction (body.Prim name notes args) → IsToldBy AsInstruction n (Some (word_fault n.at name))
  word_itself out = level_told AsInstruction n IsNoInstruction (λ f s. s) (λ f s. s) (body.Prim name notes args) is out

  word_missing : HasNoForm name (length args) → InstructionTold n
  word_missing missing =
      subst (IsToldBy AsInstruction n) (sym (word_told n.at name (instruction_read n) (missing_form_is n name notes args (shown_prim n name notes args is) missing)))
      (word_itself (inl missing))

  module _ (i : Instr) (form : IsOfForm name (length args) i) where
    told_is : fault_in (instruction_read n) ≡ first_at_fault n.at notes (form_of i) args
    told_is = first_fault_is i n notes args (shown_prim n name notes args is ∙ ap (λ (w : List ℕ). variant.Prim w notes args) (sym form.0)) (sym form.1)

    operands : List Part
    operands = operand_parts n.at n (form_of i).operands args

    are_operands : AreOperands n (operand_parts n.at n (form_of i).operands args) (out-Body n.body)
    are_operands = rw is (i, form, refl)

    only_operands : (qs : List Part) → AreOperands n qs (out-Body n.body) → qs ≡ operand_parts n.at n (form_of i).operands args
    only_operands qs are =
        let there : AreOperands n qs (body.Prim name notes args) = subst (AreOperands n qs) is are in
        there.2 ∙ parts_are n.at n name args there.0 there.1 ∙ sym (parts_are n.at n name args i form)

    in_operands : Each CodeTold args → (IsNoInstruction (body.Prim name notes args) → ⊥) → IsToldBy AsInstruction n (first_found (operand_faults n.at (Err (fault.Arity n.at)) (form_of i).operands args))
    in_operands h fit =
        parts_told AsInstruction n (operand_parts n.at n (form_of i).operands args) are_operands only_operands
        (level_sound AsInstruction n IsNoInstruction (λ f s. s) (λ f s. s) (body.Prim name notes args) is fit)
        (first_found (operand_faults n.at (Err (fault.Arity n.at)) (form_of i).operands args))
        (operands_told n.at n (Err (fault.Arity n.at)) false (form_of i).operands args (placed (out-Instr i)) (no_type n.at n (Err (fault.Arity n.at))) h)

    abbrev ToldBehind : Option ReadFault → Type 0
    ToldBehind o = IsToldBy AsInstruction n (first_found (o ∷ operand_faults n.at (Err (fault.Arity n.at)) (form_of i).operands args))

    has_form : HasNoForm name (length args) → ⊥
    has_form missing = missing i form.0 form.1

    -- a word without an entry's name
    plain_told : Each CodeTold args → (form_of i).entry ≡ None → ToldBehind (entry_fault n.at (form_of i).entry notes)
    plain_told h none = subst (λ (e : Option (Option (List ℕ))). ToldBehind (entry_fault n.at e notes)) (sym none)
        (in_operands h (λ out. elim out [ inl missing ↦ has_form missing | inr unfit ↦ none_unfit n name args notes i unfit.0 form unfit.1 none unfit.2 ]))

    -- with one, which is fit or isn't
    entered_told : Each CodeTold args → (e : Option (List ℕ)) → (form_of i).entry ≡ Some e → (found : Option (Option (List ℕ))) → entry_in notes ≡ found →
        ToldBehind (fault_in (entry n.at notes))
    entered_told h e takes (Some name_found) fit =
        let free : fault_in (entry n.at notes) ≡ None = rw fit refl in
        subst ToldBehind (sym free) (in_operands h (λ out. elim out [ inl missing ↦ has_form missing | inr unfit ↦ fit_and_unfit unfit.0 (form_of unfit.0).entry unfit.2 ]))
      where
        fit_and_unfit : (j : Instr) (d : Option (Option (List ℕ))) → IsUnfitFor d notes → ⊥
        fit_and_unfit j None unfit = unfit
        fit_and_unfit j (Some d) unfit = cc
    entered_told h e takes None unfit =
        let told : fault_in (entry n.at notes) ≡ Some (fault.Arity n.at) = rw unfit refl in
        let known : word_fault n.at name ≡ fault.Arity n.at = known_fault n.at name (is_known_word name i e form.0 takes) in
        let itself : IsUnfitFor (form_of i).entry notes = rw takes unfit in
        subst ToldBehind (sym told) (subst (λ (f : ReadFault). IsToldBy AsInstruction n (Some f)) known (word_itself (inr (i, form, itself))))

    by_entry : Each CodeTold args → (o : Option (Option (List ℕ))) → (form_of i).entry ≡ o → ToldBehind (entry_fault n.at (form_of i).entry notes)
    by_entry h None is_none = plain_told h is_none
    by_entry h (Some e) takes = subst (λ (d : Option (Option (List ℕ))). ToldBehind (entry_fault n.at d notes)) (sym takes) (entered_told h e takes (entry_in notes) refl)

    formed_told : Each CodeTold args → InstructionTold n
    formed_told h = subst (IsToldBy AsInstruction n) (sym told_is) (by_entry h (form_of i).entry refl)

  word_by_form : Each CodeTold args → InstructionTold n
  word_by_form h = elim (form_or_none name n args) [ inl missing ↦ word_missing missing | inr has ↦ formed_told has.0 has.1 h ]

module _ (n : Node) where
  no_instruction : (b : Level) → out-Body n.body ≡ b → IsNoInstruction b → instruction_at n.at (readers b) ≡ Err (level_fault n.at b) → InstructionTold n
  no_instruction b is out told =
      subst (IsToldBy AsInstruction n) (sym (ap fault_in (instruction_read-level n ∙ ap (λ (c : Level). instruction_at n.at (readers c)) is ∙ told)))
      (level_told AsInstruction n IsNoInstruction (λ f s. s) (λ f s. s) b is out)

  instruction_told_at : (b : Level) → out-Body n.body ≡ b → Each CodeTold (parts_of b) → InstructionTold n
  instruction_told_at (body.Prim name notes args) is h = word_by_form n name notes args is h
  instruction_told_at (body.Int z) is h = no_instruction (body.Int z) is tt refl
  instruction_told_at (body.Text s) is h = no_instruction (body.Text s) is tt refl
  instruction_told_at (body.Bytes s) is h = no_instruction (body.Bytes s) is tt refl
  instruction_told_at (body.Seq ns) is h = no_instruction (body.Seq ns) is tt refl

  -- ---- codes

  code_itself : (b : Level) → out-Body n.body ≡ b → IsNoCode b → fault_in (code_read n) ≡ Some (level_fault n.at b) → CodeTold n
  code_itself b is out told = subst (IsToldBy AsCode n) (sym told) (level_told AsCode n IsNoCode (λ f s. s) (λ f s. s) b is out)

  code_level : (b : Level) → out-Body n.body ≡ b → code_at n.at (readers b) ≡ Err (level_fault n.at b) → fault_in (code_read n) ≡ Some (level_fault n.at b)
  code_level b is told = ap fault_in (code_read-level n ∙ ap (λ (c : Level). code_at n.at (readers c)) is ∙ told)

  code_told_at : (b : Level) → out-Body n.body ≡ b → Each InstructionTold (parts_of b) → CodeTold n
  code_told_at (body.Prim name notes args) is h =
      code_itself (body.Prim name notes args) is tt (word_told n.at name (code_read n) (code_prim n name notes args (shown_prim n name notes args is)))
  code_told_at (body.Int z) is h = code_itself (body.Int z) is tt (code_level (body.Int z) is refl)
  code_told_at (body.Text s) is h = code_itself (body.Text s) is tt (code_level (body.Text s) is refl)
  code_told_at (body.Bytes s) is h = code_itself (body.Bytes s) is tt (code_level (body.Bytes s) is refl)
  code_told_at (body.Seq ns) is h =
      subst (IsToldBy AsCode n) (sym (code_fault_is n ns (shown_seq n ns is)))
      (parts_told AsCode n (parts_as AsInstruction ns) (ap (λ (b : Level). parts_as AsInstruction (nodes_in b)) (sym is)) (λ qs are. are ∙ ap (λ (b : Level). parts_as AsInstruction (nodes_in b)) is)
      (level_sound AsCode n IsNoCode (λ f s. s) (λ f s. s) (body.Seq ns) is (λ isnt. isnt))
      (first_found (map (λ m. fault_in (instruction_read m)) ns)) (each_told AsInstruction (λ m. fault_in (instruction_read m)) ns h))

-- ---- all nodes

record BothTold (n : Node) : Type 0 where
  instruction : InstructionTold n
  code : CodeTold n

instructions_in : (ns : List Node) → Each BothTold ns → Each InstructionTold ns
instructions_in [] h = tt
instructions_in (n ∷ ns) h = (h.0.instruction, instructions_in ns h.1)

codes_in : (ns : List Node) → Each BothTold ns → Each CodeTold ns
codes_in [] h = tt
codes_in (n ∷ ns) h = (h.0.code, codes_in ns h.1)

both_told : (n : Node) → BothTold n
both_told = induction BothTold (λ n h. record {
  instruction = instruction_told_at n (out-Body n.body) refl (codes_in (parts_of (out-Body n.body)) h);
  code = code_told_at n (out-Body n.body) refl (instructions_in (parts_of (out-Body n.body)) h);
})

-- the fault that is told of a node as an instruction, or as a code, is its first one
pub instruction_told : (n : Node) → InstructionTold n
instruction_told n = (both_told n).instruction

pub code_told : (n : Node) → CodeTold n
code_told n = (both_told n).code
