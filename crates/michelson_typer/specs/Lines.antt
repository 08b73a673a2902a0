-- A line of an instruction against a stack of numbers.
use Rattle.std.specs.Prelude.{◌≡◌, ℕ, IsTrue, List, Option, None, Some, get_or}
use Rattle.value_core.specs.declared.ty.Ty.{Ty}
use Rattle.value_core.specs.declared.ty.Ty.TheVariants as type
use Rattle.michelson_code.specs.declared.instr.Instr.{Instr}
use Rattle.michelson_code.specs.declared.instr.Instr.TheOpen.{Instr-F}
use Rattle.michelson_code.specs.declared.operands.Line.{Line}
use Rattle.michelson_code.specs.declared.script.Script.{Script}
use Rattle.michelson_code.specs.Inversion.{FindsLine}
use Rattle.michelson_code.specs.Typing.{Choice, IsOneOf, Outcome, To, given_types, slot_list}
use Rattle.michelson_typer.specs.declared.lines.Letters.{Letters}
use Rattle.michelson_typer.specs.declared.lines.Written.{Written}
use Rattle.michelson_typer.specs.Matching.{AreKnown, Front, Narrows, Suits}
use Rattle.michelson_typer.specs.Tables.{IsTypeOf, are_in, types_at}

-- the operands of the line stand on top of the stack exactly where the choice suits the letters
pub record Stands (table : List Ty) (w : Written) (free : Letters) (lines : List Line) (stack : List ℕ) (found : Letters × Line) : Type 0 where
  pub is_line : IsOneOf found.1 lines
  pub narrows : Narrows table w free found.0 (Front table (slot_list found.1.0) stack)
  pub known : AreKnown table found.0

-- no line's operands stand there
abbrev pub NoneStands : List Ty → Written → Letters → List Line → List ℕ → Type 0
NoneStands table w free lines stack =
    (l : Line) → IsOneOf l lines → (c : Choice) → Suits table w free c → Front table (slot_list l.0) stack c → ⊥

-- the line that stands, or none
abbrev pub StandsOrNot : List Ty → Written → Letters → List Line → List ℕ → Option (Letters × Line) → Type 0
StandsOrNot table w free lines stack None = NoneStands table w free lines stack
StandsOrNot table w free lines stack (Some found) = Stands table w free lines stack found

-- the types that an instruction writes, by their numbers
pub record IsWritten (s : Script) (x : Instr-F Instr) (table : List Ty) (w : Written) : Type 0 where
  pub types : List Ty
  pub given : given_types s x ≡ Some types
  pub t : IsTypeOf table w.t (get_or types 0 type.Unit)
  pub u : IsTypeOf table w.u (get_or types 1 type.Unit)

-- the types among operands, by their numbers
pub record AreWritten (table ts : List Ty) (w : Written) : Type 0 where
  pub t : IsTypeOf table w.t (get_or ts 0 type.Unit)
  pub u : IsTypeOf table w.u (get_or ts 1 type.Unit)

-- no line of the instruction is found on the stack
abbrev pub FindsNone : Script → Instr-F Instr → List Ty → Type 0
FindsNone s x before = (o : Outcome) → FindsLine s x before o → ⊥

-- a line is found, and its results are these
pub record FindsMade (s : Script) (x : Instr-F Instr) (before table : List Ty) (made : List ℕ) : Type 0 where
  pub within : IsTrue (are_in table made)
  pub finds : FindsLine s x before (To (types_at table made))
