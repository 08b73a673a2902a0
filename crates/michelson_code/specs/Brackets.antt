-- How deep the brackets of a printed script go.
use Rattle.std.specs.Prelude.{ℕ, ◌+◌, ◌-◌, Bool, true, false, if◌then◌else◌, List, [], ◌∷◌, length, map}
use Rattle.value_core.specs.declared.ty.Ty.{Ty}
use Rattle.value_core.specs.declared.val.Val.{Val}
use Rattle.value_core.specs.declared.val.Val.TheOpen as one
use Rattle.value_core.specs.Depth.{depth_of_type, greatest}
use Rattle.value_core.specs.Layer.{Layer, by_level}
use Rattle.michelson_code.specs.declared.instr.Instr.{Instr}
use Rattle.michelson_code.specs.declared.instr.Instr.TheOpen.{Instr-F}
use Rattle.michelson_code.specs.declared.instr.Instr.TheFolds.{fold-Instr}
use Rattle.michelson_code.specs.declared.script.Script.{Script}
use Rattle.michelson_code.specs.Entries.{NamedEntry}
use Rattle.michelson_code.specs.Forms.{Operand, ANumber, AType, SomeData, ACode, form_at}

-- ---- types: parentheses stand round an argument that has parts, so a type without parts stands in none

-- a type as an argument
abbrev pub type_brackets : Ty → ℕ
type_brackets t = depth_of_type t - 1

-- ---- values

-- how deep the brackets inside go, and whether parentheses stand round it as an argument
abbrev pub Nesting : Type 0
Nesting = ℕ × Bool

-- by itself, and as an argument
abbrev pub inside : Nesting → ℕ
inside n = n.0

-- as an argument
abbrev pub argued : Nesting → ℕ
argued n = if n.1 then 1 + n.0 else n.0

-- a word, a number, a text or bytes
abbrev pub plain : Nesting
plain = (0, false)

-- a word with arguments
abbrev pub applied : List Nesting → Nesting
applied args = (greatest (map argued args), true)

-- nodes in braces, by how deep the brackets inside each go
abbrev pub braced : List ℕ → Nesting
braced items = (1 + greatest items, false)

-- `Elt k v`
abbrev pub entry_inside : Nesting × Nesting → ℕ
entry_inside e = inside (applied (e.0 ∷ e.1 ∷ []))

-- one level of a value; what isn't data is printed as `{}`
abbrev pub nesting_level : Layer Nesting → Nesting
nesting_level (one.Some part) = applied (part ∷ [])
nesting_level (one.Left part) = applied (part ∷ [])
nesting_level (one.Right part) = applied (part ∷ [])
nesting_level (one.Pair a b) = applied (a ∷ b ∷ [])
nesting_level (one.List items) = braced (map inside items)
nesting_level (one.Set items) = braced (map inside items)
nesting_level (one.Map entries) = braced (map entry_inside entries)
nesting_level (one.BigMap place version) = braced []
nesting_level (one.Contract address entry) = braced []
nesting_level (one.Operation emit) = braced []
nesting_level _ = plain

-- a value as it is printed
abbrev pub nesting_of : Val → Nesting
nesting_of = by_level nesting_level

-- a key and its value
abbrev pub nestings_of : Val × Val → Nesting × Nesting
nestings_of e = (nesting_of e.0, nesting_of e.1)

-- ---- code

-- what stands behind a word, with the brackets of each instruction of a body in its place
abbrev pub operand_brackets : Operand ℕ → ℕ
operand_brackets (ANumber least n) = 0
operand_brackets (AType t) = type_brackets t
operand_brackets (SomeData t v) = argued (nesting_of v)
operand_brackets (ACode c) = 1 + greatest c

-- one level of an instruction
abbrev pub brackets_at : Instr-F ℕ → ℕ
brackets_at x = greatest (map operand_brackets (form_at x).operands)

-- an instruction
abbrev pub brackets_of : Instr → ℕ
brackets_of = fold-Instr ℕ brackets_at

-- a code in its braces
abbrev pub code_brackets : List Instr → ℕ
code_brackets code = 1 + greatest (map brackets_of code)

-- ---- a script

-- the name of an entry puts parentheses round its node, which stands in as many as the way to it is long
abbrev pub name_brackets : NamedEntry → ℕ
name_brackets e = 1 + length e.0

-- the brackets of a script's text
abbrev pub script_brackets : Script → ℕ
script_brackets s =
    greatest (type_brackets s.param ∷ type_brackets s.storage ∷ code_brackets s.code ∷ map name_brackets s.names)
