-- Which faults stand in the nodes of a script, each at a node that is faulty by itself in the role of its place, and which one is the first.
use Rattle.std.specs.Prelude.{◌≡◌, ℕ, ◌⊎◌, IsSomeAnd, IsTrue, length, List, [], ◌∷◌, codes, if◌then◌else◌, map, slice_get}
use Rattle.std.specs.Str.{bytes_eq}
use Rattle.micheline_text.specs.declared.node.Node.{Node}
use Rattle.micheline_text.specs.declared.node.Body.TheOpen as body
use Rattle.micheline_text.specs.declared.node.Body.TheViews.{out-Body}
use Rattle.michelson_code.specs.declared.instr.Instr.{Instr}
use Rattle.michelson_code.specs.Forms.{Operand, ANumber, AType, SomeData, ACode, form_of}
use Rattle.data_nodes.specs.FirstFault.{IsFirstOf, Place}
use Rattle.michelson_reader.specs.declared.fault.ReadFault.{ReadFault}
use Rattle.michelson_reader.specs.declared.fault.ReadFault.TheVariants as fault
use Rattle.michelson_reader.specs.FaultyNodes.{IsOfForm, Level}
use Rattle.michelson_reader.specs.FaultySections.{is_section_missing}
use Rattle.michelson_reader.specs.PushedFault.{nodes_in}
use Rattle.michelson_reader.specs.Roles.{Role, AsCode, AsData, AsInstruction, AsNumber, AsParameter, AsSection, AsType, IsFaulty}
use Rattle.michelson_reader.specs.Script.{unbraced}

-- ---- the parts of a node

-- a part of a node: its role, and the node that stands there
abbrev pub Part : Type 0
Part = Role × Node

-- each node in the role
abbrev pub parts_as : Role → List Node → List Part
parts_as role = map (λ n. (role, n))

-- what an operand is behind an instruction at an offset; data is of the type before it
abbrev pub operand_role : ℕ → Node → Operand Instr → Role
operand_role at before (ANumber least n) = AsNumber least at
operand_role at before (AType t) = AsType
operand_role at before (SomeData t v) = AsData before
operand_role at before (ACode c) = AsCode

-- each argument as what stands there in the form, behind an instruction at an offset; the node is what stands before them
abbrev pub operand_parts : ℕ → Node → List (Operand Instr) → List Node → List Part
operand_parts at before (o ∷ os) (x ∷ args) = (operand_role at before o, x) ∷ operand_parts at x os args
operand_parts at before os args = []

-- both sides of an `or` are parts of the parameter again
abbrev pub parameter_parts : Level → List Part
parameter_parts (body.Prim name notes (x ∷ y ∷ [])) = parts_as (if bytes_eq name (codes "or") then AsParameter else AsType) (x ∷ y ∷ [])
parameter_parts b = parts_as AsType (nodes_in b)

-- what stands behind the word of a section
abbrev pub section_role : Level → Role
section_role (body.Prim name notes args) = if bytes_eq name (codes "parameter") then AsParameter else if bytes_eq name (codes "storage") then AsType else AsCode
section_role _ = AsCode

-- the parts of an instruction are its operands in the table of forms
abbrev pub AreOperands : Node → List Part → Level → Type 0
AreOperands n ps (body.Prim name notes args) = (i : Instr) × IsOfForm name (length args) i × (ps ≡ operand_parts n.at n (form_of i).operands args)
AreOperands n ps _ = ⊥

-- the parts of a node in a role; a number and data are looked at as a whole
abbrev pub ArePartsOf : Role → Node → List Part → Type 0
ArePartsOf AsType n ps = ps ≡ parts_as AsType (nodes_in (out-Body n.body))
ArePartsOf AsParameter n ps = ps ≡ parameter_parts (out-Body n.body)
ArePartsOf AsInstruction n ps = AreOperands n ps (out-Body n.body)
ArePartsOf AsCode n ps = ps ≡ parts_as AsInstruction (nodes_in (out-Body n.body))
ArePartsOf (AsSection before) n ps = ps ≡ parts_as (section_role (out-Body n.body)) (nodes_in (out-Body n.body))
ArePartsOf _ n ps = ⊥

-- ---- faults at their places

-- the fault stands at the place
abbrev pub StandsAt : Place → Role → Node → ReadFault → Type 0
StandsAt [] role n f = IsFaulty role n f
StandsAt (i ∷ place) role n f = (ps : List Part) × ArePartsOf role n ps × IsSomeAnd (slice_get ps i) (λ x. StandsAt place x.0 x.1 f)

-- the first fault of a node in a role
abbrev pub IsFirstFault : Role → Node → ReadFault → Type 0
IsFirstFault role n = IsFirstOf (λ p f. StandsAt p role n f)

-- each node as a section behind those before it
abbrev pub section_parts : List Node → List Node → List Part
section_parts before [] = []
section_parts before (n ∷ ns) = (AsSection before, n) ∷ section_parts (n ∷ before) ns

-- a fault of the nodes of a script; a missing section stands behind them, and is told at the text's end
abbrev pub StandsInScript : ℕ → List Node → Place → ReadFault → Type 0
StandsInScript end ns [] f = ⊥
StandsInScript end ns (i ∷ place) f =
    IsSomeAnd (slice_get (section_parts [] ns) i) (λ x. StandsAt place x.0 x.1 f)
    ⊎ ((i ≡ length ns) × (place ≡ []) × IsTrue (is_section_missing ns) × (f ≡ fault.Sections end))

-- the first fault of a script, where its text ends there
abbrev pub IsScriptFault : ℕ → List Node → ReadFault → Type 0
IsScriptFault end ns = IsFirstOf (StandsInScript end (unbraced ns))
