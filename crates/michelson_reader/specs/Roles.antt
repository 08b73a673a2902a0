-- What a node of a script is by its place, and when it is faulty by itself there.
use Rattle.std.specs.Prelude.{◌≡◌, ℕ, ◌⊎◌, IsTrue, List, Some}
use Rattle.value_core.specs.declared.ty.Ty.{Ty}
use Rattle.micheline_text.specs.declared.node.Node.{Node}
use Rattle.micheline_text.specs.declared.node.Body.TheViews.{out-Body}
use Rattle.michelson_reader.specs.declared.fault.ReadFault.{ReadFault}
use Rattle.michelson_reader.specs.declared.fault.ReadFault.TheVariants as fault
use Rattle.michelson_reader.specs.FaultyNodes.{IsNoCode, IsNoInstruction, IsNoNumber, IsNoType, IsOutOfRange, IsUnfit, Level, level_fault}
use Rattle.michelson_reader.specs.FaultySections.{section_fault}
use Rattle.michelson_reader.specs.PushedFault.{IsPushedFault}
use Rattle.michelson_reader.specs.Types.{is_type}

-- what a node is by its place: a number from a least one, behind an instruction at an offset; data of the type that another node is; a section behind other nodes
pub data Role : Type 0 where
  AsType : Role
  AsParameter : Role
  AsInstruction : Role
  AsCode : Role
  AsNumber : ℕ → ℕ → Role
  AsData : Node → Role
  AsSection : List Node → Role

-- one level of a node at an offset is faulty by itself; a number out of range is told at the instruction
abbrev pub IsFaultyLevel : Role → ℕ → Level → ReadFault → Type 0
IsFaultyLevel AsType at b f = IsNoType b × (f ≡ level_fault at b)
IsFaultyLevel AsParameter at b f = (IsNoType b ⊎ IsUnfit b) × (f ≡ level_fault at b)
IsFaultyLevel AsInstruction at b f = IsNoInstruction b × (f ≡ level_fault at b)
IsFaultyLevel AsCode at b f = IsNoCode b × (f ≡ level_fault at b)
IsFaultyLevel (AsNumber least place) at b f = (IsNoNumber b × (f ≡ level_fault at b)) ⊎ (IsOutOfRange least b × (f ≡ fault.Arity place))
IsFaultyLevel (AsData m) at b f = ⊥
IsFaultyLevel (AsSection before) at b f = section_fault at before b ≡ Some f

-- the node is faulty by itself in its role
abbrev pub IsFaulty : Role → Node → ReadFault → Type 0
IsFaulty (AsData m) n f = (t : Ty) × IsTrue (is_type t m) × IsPushedFault t n f
IsFaulty role n f = IsFaultyLevel role n.at (out-Body n.body) f
