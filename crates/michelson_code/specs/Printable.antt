-- Which scripts are read again as they are printed: numbers, pushed values, names of entries and brackets.
use Rattle.std.specs.Prelude.{ℕ, Bool, true, ◌&&◌, ◌≤◌, IsTrue, is_some, nat_le, List}
use Rattle.std.specs.List.{list_all}
use Rattle.value_core.specs.declared.ty.Ty.{Ty}
use Rattle.value_core.specs.declared.val.Val.{Val}
use Rattle.value_core.specs.Kinds.{is_passable}
use Rattle.value_core.specs.Size.{size_of}
use Rattle.value_core.specs.Typed.{has_type}
use Rattle.michelson_code.specs.declared.instr.Instr.{Instr}
use Rattle.michelson_code.specs.declared.instr.Instr.TheOpen.{Instr-F}
use Rattle.michelson_code.specs.declared.instr.Instr.TheFolds.{fold-Instr}
use Rattle.michelson_code.specs.declared.script.Script.{Script}
use Rattle.michelson_code.specs.Brackets.{script_brackets}
use Rattle.michelson_code.specs.Entries.{NamedEntry, are_in_order, type_at}
use Rattle.michelson_code.specs.Forms.{Operand, ANumber, AType, SomeData, ACode, form_at}

-- a number that may be read: not below the least, and at most 65,535
abbrev pub is_count : ℕ → ℕ → Bool
is_count least n = nat_le least n && nat_le n 65535

-- data of a type: it has the type, and a size of at most 4,096
abbrev pub is_datum : Ty → Val → Bool
is_datum t v = has_type v t && nat_le (size_of v) 4096

-- a value that may be pushed: data of a passable type
abbrev pub is_pushed : Ty → Val → Bool
is_pushed t v = is_passable t && is_datum t v

-- the operand is one that is read again; a body says whether each of its instructions is
abbrev pub is_fit_operand : Operand Bool → Bool
is_fit_operand (ANumber least n) = is_count least n
is_fit_operand (AType t) = true
is_fit_operand (SomeData t v) = is_pushed t v
is_fit_operand (ACode c) = list_all (λ fit. fit) c

-- one level of an instruction
abbrev pub fit_at : Instr-F Bool → Bool
fit_at x = list_all is_fit_operand (form_at x).operands

-- each number of the instruction may be read, and each value may be pushed
abbrev pub is_fit : Instr → Bool
is_fit = fold-Instr Bool fit_at

-- a name at a node that `or` alone reaches
abbrev pub stands_in : Ty → NamedEntry → Bool
stands_in t e = is_some (type_at e.0 t)

-- names at such nodes, in the order of the text and so at most one at each
abbrev pub are_entries_of : Ty → List NamedEntry → Bool
are_entries_of t names = list_all (stands_in t) names && are_in_order names

-- a script whose text is read again as it
pub record IsPrintableScript (s : Script) : Type 0 where
  pub names : IsTrue (are_entries_of s.param s.names)
  pub instructions : IsTrue (list_all is_fit s.code)
  pub depth : script_brackets s ≤ 256
