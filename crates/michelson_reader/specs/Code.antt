-- The grammar of instructions: a node is written for one as the table of forms says.
use Rattle.std.specs.Prelude.{ℕ, pos, Bool, true, false, ◌&&◌, List, [], ◌∷◌, map, Option, None, Some}
use Rattle.std.specs.Cmp.Lexicographic.{pointwise}
use Rattle.std.specs.Str.{bytes_eq}
use Rattle.value_core.specs.Leaves.{is_name}
use Rattle.micheline_text.specs.declared.node.Node.{Node}
use Rattle.micheline_text.specs.declared.node.Body.{Body}
use Rattle.micheline_text.specs.declared.node.Body.TheOpen as body
use Rattle.micheline_text.specs.declared.node.Body.TheOpen.{Body-F}
use Rattle.micheline_text.specs.declared.node.Body.TheViews.{out-Body}
use Rattle.michelson_code.specs.declared.instr.Instr.{Instr}
use Rattle.michelson_code.specs.declared.instr.Instr.TheOpen.{Instr-F}
use Rattle.michelson_code.specs.declared.instr.Instr.TheFolds.{fold-Instr}
use Rattle.data_nodes.specs.Nodes.{Test, all_are, is_numeral, is_sequence}
use Rattle.data_nodes.specs.Data.{is_written}
use Rattle.michelson_reader.specs.Entries.{names_in}
use Rattle.michelson_code.specs.Forms.{Form, Operand, ANumber, AType, SomeData, ACode, form_at}
use Rattle.michelson_code.specs.Printable.{is_count, is_datum}
use Rattle.michelson_reader.specs.Types.{is_type}

-- what an operand is written as
abbrev pub is_operand : Operand Test → Test
is_operand (ANumber least n) node = is_count least n && is_numeral (pos n) node
is_operand (AType t) node = is_type t node
is_operand (SomeData t v) node = is_datum t v && is_written v node
is_operand (ACode c) node = is_sequence c node

-- the annotations give this name of an entry, or none; at other words they say nothing
abbrev pub is_entry : Option (Option (List ℕ)) → List (List ℕ) → Bool
is_entry None notes = true
is_entry (Some None) notes = pointwise bytes_eq (names_in notes) []
is_entry (Some (Some name)) notes = pointwise bytes_eq (names_in notes) (name ∷ []) && is_name name

-- what a word with its annotations and arguments must be
abbrev pub is_form_body : Form Test → Body-F Body Node → Bool
is_form_body f (body.Prim name notes args) = bytes_eq name f.word && is_entry f.entry notes && all_are (map is_operand f.operands) args
is_form_body f _ = false

-- one level of an instruction, with what is written for each instruction of a body in its place
abbrev pub code_level : Instr-F Test → Test
code_level x n = is_form_body (form_at x) (out-Body n.body)

-- the node is written for the instruction
abbrev pub is_instruction : Instr → Test
is_instruction = fold-Instr Test code_level

-- the node is written for the code: its instructions in braces
abbrev pub is_code : List Instr → Test
is_code code = is_sequence (map is_instruction code)
