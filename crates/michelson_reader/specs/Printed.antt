-- The text that is printed for a script.
use Rattle.std.specs.Prelude.{ℕ, pos, List, [], ◌∷◌, ◌++◌, map, codes, Option, Some}
use Rattle.value_core.specs.declared.ty.Ty.{Ty}
use Rattle.value_core.specs.declared.ty.Ty.TheOpen as ty
use Rattle.value_core.specs.declared.ty.Ty.TheOpen.{Ty-F}
use Rattle.value_core.specs.declared.ty.Ty.TheFolds.{fold-Ty, map-Ty}
use Rattle.micheline_text.specs.declared.node.Node.{Node}
use Rattle.micheline_text.specs.declared.node.Body.TheVariants as body
use Rattle.micheline_text.specs.Printed.{printed}
use Rattle.michelson_code.specs.declared.instr.Instr.{Instr}
use Rattle.michelson_code.specs.declared.instr.Instr.TheFolds.{fold-Instr}
use Rattle.michelson_code.specs.declared.script.Script.{Script}
use Rattle.michelson_code.specs.declared.script.Side.{Side}
use Rattle.michelson_code.specs.declared.script.Side.TheVariants.{Left, Right}
use Rattle.data_nodes.specs.Nodes.{applied, node}
use Rattle.data_nodes.specs.Printed.{node_of}
use Rattle.michelson_code.specs.Entries.{NamedEntry}
use Rattle.michelson_reader.specs.Types.{word_and_parts}
use Rattle.michelson_code.specs.Forms.{Form, Operand, ANumber, AType, SomeData, ACode, form_at}

-- a word with the names of entries as annotations
abbrev pub noted : List (List ℕ) → List ℕ × List Node → Node
noted names x = node (body.Prim x.0 (map (λ name. codes "%" ++ name) names) x.1)

-- the node of a type
abbrev pub type_node : Ty → Node
type_node = fold-Ty Node (λ x. noted [] (word_and_parts x))

-- ---- the parameter: each name stands at its node

-- the names that stand right there
abbrev pub names_here : List NamedEntry → List (List ℕ)
names_here [] = []
names_here (([], name) ∷ es) = name ∷ names_here es
names_here ((side ∷ path, name) ∷ es) = names_here es

-- the names below a part, by the way from it
abbrev pub names_below : Side → List NamedEntry → List NamedEntry
names_below side [] = []
names_below side (([], name) ∷ es) = names_below side es
names_below Left ((Left ∷ path, name) ∷ es) = (path, name) ∷ names_below Left es
names_below Left ((Right ∷ path, name) ∷ es) = names_below Left es
names_below Right ((Left ∷ path, name) ∷ es) = names_below Right es
names_below Right ((Right ∷ path, name) ∷ es) = (path, name) ∷ names_below Right es

-- a type's node as it is, and as a part of the parameter with names below it
abbrev pub PartNode : Type 0
PartNode = Node × (List NamedEntry → Node)

-- the word and the parts of a type, with the names below each side of an `or`
abbrev pub part_nodes : Ty-F PartNode → List NamedEntry → List ℕ × List Node
part_nodes (ty.Or s t) names = (codes "or", s.1 (names_below Left names) ∷ t.1 (names_below Right names) ∷ [])
part_nodes x names = word_and_parts (map-Ty PartNode Node (λ p. p.0) x)

-- the node of a parameter, with the names of its entries
abbrev pub parameter_node : Ty → List NamedEntry → Node
parameter_node t = (fold-Ty PartNode (λ x.
    (noted [] (word_and_parts (map-Ty PartNode Node (λ p. p.0) x)), λ names. noted (names_here names) (part_nodes x names))) t).1

-- ---- code, by the table of forms

-- the node of an operand
abbrev pub operand_node : Operand Node → Node
operand_node (ANumber least n) = node (body.Int (pos n))
operand_node (AType t) = type_node t
operand_node (SomeData t v) = node_of v
operand_node (ACode c) = node (body.Seq c)

-- the name of an entry, where there is one
abbrev pub entry_names : Option (Option (List ℕ)) → List (List ℕ)
entry_names (Some (Some name)) = name ∷ []
entry_names _ = []

-- the node of an instruction
abbrev pub instruction_node : Instr → Node
instruction_node = fold-Instr Node (λ x. let f : Form Node = form_at x in noted (entry_names f.entry) (f.word, map operand_node f.operands))

-- the node of a code
abbrev pub code_node : List Instr → Node
code_node code = node (body.Seq (map instruction_node code))

-- ---- a script, in three lines

-- the parameter
abbrev pub parameter_section : Script → Node
parameter_section s = applied (codes "parameter") (parameter_node s.param s.names ∷ [])

-- the storage
abbrev pub storage_section : Script → Node
storage_section s = applied (codes "storage") (type_node s.storage ∷ [])

-- the code
abbrev pub code_section : Script → Node
code_section s = applied (codes "code") (code_node s.code ∷ [])

-- ` ;` and a newline behind each of the first two, a newline behind the last
abbrev pub script_text : Script → List ℕ
script_text s = printed (parameter_section s) ++ (codes " ;" ++ 10 ∷ (printed (storage_section s) ++ (codes " ;" ++ 10 ∷ (printed (code_section s) ++ 10 ∷ []))))
