-- Which fault of an instruction is told, by the table of forms: that of the first operand at fault, whatever the word.
use Rattle.std.specs.Prelude.{ℕ, List, [], ◌∷◌, Option, None, Some, Ok, Err}
use Rattle.value_core.specs.declared.ty.Ty.{Ty}
use Rattle.micheline_text.specs.declared.node.Node.{Node}
use Rattle.michelson_code.specs.declared.instr.Instr.{Instr}
use Rattle.michelson_code.specs.Forms.{Form, Operand, ANumber, AType, SomeData, ACode}
use Rattle.michelson_reader.specs.declared.fault.ReadFault.{ReadFault}
use Rattle.michelson_reader.specs.declared.fault.ReadFault.TheVariants as fault
use Rattle.michelson_reader.specs.CodeFaults.{code_read, entry, first_found, number, pushed}
use Rattle.michelson_reader.specs.TypeFaults.{Read, then_read, type_read}

-- what is wrong, where something is
abbrev pub fault_in : {A : Type 0} → Read A → Option ReadFault
fault_in (Ok x) = None
fault_in (Err f) = Some f

-- with the annotations of an instruction at this place, where its word takes the name of an entry
abbrev pub entry_fault : ℕ → Option (Option (List ℕ)) → List (List ℕ) → Option ReadFault
entry_fault at None notes = None
entry_fault at (Some e) notes = fault_in (entry at notes)

-- with an argument, by the operand that stands there; data is of the type that is written before it
abbrev pub operand_fault : ℕ → Read Ty → Operand Instr → Node → Option ReadFault
operand_fault at before (ANumber least n) x = fault_in (number at least x)
operand_fault at before (AType t) x = fault_in (type_read x)
operand_fault at before (SomeData t v) x = fault_in (then_read before (λ t. pushed t x))
operand_fault at before (ACode c) x = fault_in (code_read x)

-- with each argument, from the left
abbrev pub operand_faults : ℕ → Read Ty → List (Operand Instr) → List Node → List (Option ReadFault)
operand_faults at before (o ∷ os) (x ∷ args) = operand_fault at before o x ∷ operand_faults at (type_read x) os args
operand_faults at before os args = []

-- the first of these
abbrev pub first_at_fault : ℕ → List (List ℕ) → Form Instr → List Node → Option ReadFault
first_at_fault at notes f args = first_found (entry_fault at f.entry notes ∷ operand_faults at (Err (fault.Arity at)) f.operands args)
