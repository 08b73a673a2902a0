-- Lawful scripts: the numbers, names and values in them are what the program can hold.
use Rattle.std.specs.Prelude.{ℕ, ◌^◌, Bool, true, ◌&&◌, nat_lt, List, Option, Some}
use Rattle.std.specs.List.{list_all}
use Rattle.value_core.specs.Lawful.{is_lawful}
use Rattle.value_core.specs.Leaves.{is_name}
use Rattle.michelson_code.specs.declared.instr.Instr.{Instr}
use Rattle.michelson_code.specs.declared.instr.Instr.TheOpen.{Instr-F}
use Rattle.michelson_code.specs.declared.instr.Instr.TheFolds.{fold-Instr}
use Rattle.michelson_code.specs.declared.script.Script.{Script}
use Rattle.michelson_code.specs.Entries.{NamedEntry}
use Rattle.michelson_code.specs.Forms.{Form, Operand, ANumber, SomeData, ACode, form_at}

-- the name of an entry, where there is one, is a name
abbrev pub is_lawful_name : Option (Option (List ℕ)) → Bool
is_lawful_name (Some (Some name)) = is_name name
is_lawful_name _ = true

-- a number is below 2^32, and data is lawful; a body says whether each of its instructions is
abbrev pub is_lawful_operand : Operand Bool → Bool
is_lawful_operand (ANumber least n) = nat_lt n (2 ^ 32)
is_lawful_operand (SomeData t v) = is_lawful v
is_lawful_operand (ACode c) = list_all (λ lawful. lawful) c
is_lawful_operand _ = true

-- a form whose bodies say whether each of their instructions is lawful
abbrev pub is_lawful_form : Form Bool → Bool
is_lawful_form f = is_lawful_name f.entry && list_all is_lawful_operand f.operands

-- one level of an instruction
abbrev pub lawful_at : Instr-F Bool → Bool
lawful_at x = is_lawful_form (form_at x)

-- each number, name and value in the instruction is lawful
abbrev pub is_lawful_instr : Instr → Bool
is_lawful_instr = fold-Instr Bool lawful_at

-- the name of an entry of a parameter
abbrev pub is_lawful_entry : NamedEntry → Bool
is_lawful_entry e = is_name e.1

-- each number, name and value in the script is lawful
abbrev pub is_lawful_script : Script → Bool
is_lawful_script s = list_all is_lawful_entry s.names && list_all is_lawful_instr s.code
