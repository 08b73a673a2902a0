-- What the nodes that are printed are made of.
use Rattle.std.specs.Prelude.{ℕ, List, [], ◌∷◌, ◌++◌, codes, map}
use Rattle.value_core.specs.declared.ty.Ty.{Ty}
use Rattle.value_core.specs.declared.ty.Ty.TheOpen.{Ty-F}
use Rattle.value_core.specs.declared.ty.Ty.TheViews.{out-Ty}
use Rattle.value_core.specs.declared.ty.Ty.TheFolds.{fold-Ty, map-Ty}
use Rattle.micheline_text.specs.declared.node.Node.{Node}
use Rattle.micheline_text.specs.declared.node.Body.TheVariants as body
use Rattle.michelson_code.specs.declared.instr.Instr.{Instr}
use Rattle.michelson_code.specs.declared.script.Side.{Side}
use Rattle.data_nodes.specs.Nodes.{node}
use Rattle.michelson_reader.specs.declared.parameter_nodes.EntryBelow.{EntryBelow}
use Rattle.michelson_code.specs.Entries.{NamedEntry}
use Rattle.michelson_code.specs.Forms.{Operand}
use Rattle.michelson_code.specs.Levels.{operand_map}
use Rattle.michelson_reader.specs.Printed.{PartNode, instruction_node, names_below, names_here, noted, operand_node, part_nodes, type_node}
use Rattle.michelson_reader.specs.Types.{word_and_parts}

-- the annotation with a name
abbrev pub note_of : List ℕ → List ℕ
note_of name = codes "%" ++ name

-- ---- types

-- the word of a type
abbrev pub type_word : Ty → List ℕ
type_word t = (word_and_parts (out-Ty t)).0

-- the nodes of the parts
abbrev pub type_parts : Ty → List Node
type_parts t = (word_and_parts (map-Ty Ty Node type_node (out-Ty t))).1

-- the node of a pair of two types
abbrev pub pair_node : Node → Node → Node
pair_node first second = node (body.Prim (codes "pair") [] (first ∷ second ∷ []))

-- the node of a type with annotations
abbrev pub annotated : List (List ℕ) → Ty → Node
annotated notes t = node (body.Prim (type_word t) notes (type_parts t))

-- ---- the parameter

-- an entry, by the way that is left
abbrev pub entry_of : EntryBelow → NamedEntry
entry_of e = (e.path.now, e.name.now)

-- the annotations of the names that stand right there
abbrev pub notes_of : List EntryBelow → List (List ℕ)
notes_of entries = map note_of (names_here (map entry_of entries))

-- the names below a part
abbrev pub below_of : Side → List EntryBelow → List NamedEntry
below_of side entries = names_below side (map entry_of entries)

-- one level of a type, as it is, and with names from it on
abbrev pub part_level : Ty-F PartNode → PartNode
part_level x = (
  noted [] (word_and_parts (map-Ty PartNode Node (λ p. p.0) x)),
  λ names. noted (names_here names) (part_nodes x names),
)

-- a part of the parameter with names from it on
abbrev pub part_node : Ty → List NamedEntry → Node
part_node t = (fold-Ty PartNode part_level t).1

-- ---- code

-- the node of an operand
abbrev pub node_behind : Operand Instr → Node
node_behind o = operand_node (operand_map instruction_node o)

-- the nodes of what stands behind a word
abbrev pub nodes_behind : List (Operand Instr) → List Node
nodes_behind operands = map operand_node (map (operand_map instruction_node) operands)
