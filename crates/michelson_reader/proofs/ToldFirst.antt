-- The fault that is told is the first one, and no other is.
use Rattle.std.proofs.Common.{◌≡◌, ◌⊎◌, inl, inr, ℕ, List, Result, Ok, Err, refl, ap, subst}
use Rattle.std.specs.Prelude.{◌↔◌, IfErr}
use Rattle.micheline_text.specs.declared.node.Node.{Node}
use Rattle.value_core.specs.declared.ty.Ty.{Ty}
use Rattle.micheline_text.specs.Told.{AnswersUnlessFull}
use Rattle.michelson_code.specs.declared.script.Script.{Script}
use Rattle.data_nodes.specs.FirstFault.{IsFirstOf, Place}
use Rattle.michelson_reader.specs.declared.fault.ReadFault.{ReadFault}
use Rattle.michelson_reader.specs.declared.fault.ReadFault.TheVariants as fault
use Rattle.michelson_reader.specs.Answers.{read_fault}
use Rattle.michelson_reader.specs.CodeFaults.{code_read, instruction_read}
use Rattle.michelson_reader.specs.FirstFault.{IsFirstFault, IsScriptFault, StandsAt, StandsInScript}
use Rattle.michelson_reader.specs.Roles.{AsCode, AsInstruction, AsType}
use Rattle.michelson_reader.specs.Script.{AreSections, unbraced}
use Rattle.michelson_reader.specs.ScriptFaults.{script_read}
use Rattle.michelson_reader.specs.TypeFaults.{Read, type_read}
use Rattle.michelson_reader.proofs.FirstAtFault.{fault_in}
use Rattle.michelson_reader.proofs.CodeTold.{code_told, instruction_told}
use Rattle.michelson_reader.proofs.FirstParts.{Tells, one_first}
use Rattle.michelson_reader.proofs.ReadLaws.{script-read}
use Rattle.michelson_reader.proofs.SectionsTold.{script_told}
use Rattle.michelson_reader.proofs.TypesTold.{type_told}

module _ {A : Type 0} (Stands : Place → ReadFault → Type 0) where
  told_is_first : (r : Read A) → Tells Stands (fault_in r) → (f : ReadFault) → (r ≡ Err f) ↔ IsFirstOf Stands f
  told_is_first (Ok a) none f = (λ e. absurd cc, λ h. absurd (none h.0 f h.1))
  told_is_first (Err g) first f = (
    λ e. let same : g ≡ f = cc in subst (IsFirstOf Stands) same first,
    λ h. ap (λ (x : ReadFault). Err x) (one_first Stands g f first h),
  )

  none_in_read : (a : A) (r : Read A) → r ≡ Ok a → Tells Stands (fault_in r) → (p : Place) (f : ReadFault) → Stands p f → ⊥
  none_in_read a r is told = subst (λ (q : Read A). Tells Stands (fault_in q)) is told

-- of a node as a type
pub type_fault : (n : Node) (f : ReadFault) → (type_read n ≡ Err f) ↔ IsFirstFault AsType n f
type_fault n f = told_is_first (λ p f. StandsAt p AsType n f) (type_read n) (type_told n) f

-- as an instruction, and as a code
pub instruction_fault : (n : Node) (f : ReadFault) → (instruction_read n ≡ Err f) ↔ IsFirstFault AsInstruction n f
instruction_fault n f = told_is_first (λ p f. StandsAt p AsInstruction n f) (instruction_read n) (instruction_told n) f

pub code_fault : (n : Node) (f : ReadFault) → (code_read n ≡ Err f) ↔ IsFirstFault AsCode n f
code_fault n f = told_is_first (λ p f. StandsAt p AsCode n f) (code_read n) (code_told n) f

-- of nodes as a script
pub script_fault : (end : ℕ) (ns : List Node) (f : ReadFault) → (script_read end ns ≡ Err f) ↔ IsScriptFault end ns f
script_fault end ns f = told_is_first (StandsInScript end (unbraced ns)) (script_read end ns) (script_told end ns) f

pub one_script_fault : (end : ℕ) (ns : List Node) (f g : ReadFault) → IsScriptFault end ns f → IsScriptFault end ns g → f ≡ g
one_script_fault end ns = one_first (StandsInScript end (unbraced ns))

pub none_in_script : (end : ℕ) (ns : List Node) (s : Script) → AreSections (unbraced ns) s → (p : Place) (f : ReadFault) → StandsInScript end (unbraced ns) p f → ⊥
none_in_script end ns s are = none_in_read (StandsInScript end (unbraced ns)) s (script_read end ns) ((script-read end ns s).1 are) (script_told end ns)

-- ---- what is told of a node that was read as a type

pub type_refused : (n : Node) (r : Result Ty ReadFault) → AnswersUnlessFull read_fault (λ t. t) r (type_read n) → IfErr r (λ e. (e ≡ fault.NoMemory) ⊎ IsFirstFault AsType n e)
type_refused n (Ok t) answers = tt
type_refused n (Err fault.NoMemory) told = inl refl
type_refused n (Err e) told = inr ((type_fault n e).0 told)
