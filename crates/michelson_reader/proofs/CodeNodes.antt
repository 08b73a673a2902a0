-- The node of an instruction is its word with what stands behind it.
use Rattle.std.proofs.Common.{◌≡◌, ℕ, List, map, Result, Ok, Err, refl, ap, sym, ◌∙◌}
use Rattle.std.specs.Prelude.{IfOk}
use Rattle.micheline_text.specs.declared.node.Node.{Node}
use Rattle.micheline_text.specs.declared.node.Body.TheVariants as body
use Rattle.michelson_code.specs.declared.instr.Instr.{Instr}
use Rattle.michelson_code.specs.declared.instr.Instr.TheOpen.{Instr-F}
use Rattle.michelson_code.specs.declared.instr.Instr.TheFolds.{fold_out-Instr}
use Rattle.michelson_code.specs.Forms.{Form, form_at, form_of}
use Rattle.michelson_code.specs.Levels.{fold_form, form_map}
use Rattle.data_nodes.specs.Nodes.{node}
use Rattle.michelson_reader.specs.Printed.{entry_names, instruction_node, noted, operand_node}
use Rattle.michelson_reader.specs.Printing.{nodes_behind, note_of}

-- the node of a form
abbrev pub form_node : Form Node → Node
form_node f = noted (entry_names f.entry) (f.word, map operand_node f.operands)

-- an instruction's node is that of its form
pub node-level : (i : Instr) → instruction_node i ≡ form_node (form_map instruction_node (form_of i))
node-level = fold_form (λ (x : Instr-F Node). form_node (form_at x)) form_node instruction_node (fold_out-Instr Node (λ x. form_node (form_at x))) (λ x. refl)

-- the same by a form that is the instruction's
pub node_of_form : (i : Instr) (f : Form Instr) → f ≡ form_of i →
    node (body.Prim f.word (map note_of (entry_names f.entry)) (nodes_behind f.operands)) ≡ instruction_node i
node_of_form i f is = ap (λ (g : Form Instr). form_node (form_map instruction_node g)) is ∙ sym (node-level i)

-- the node that was made of an instruction's word and of what stands behind it
pub node_told : {E : Type 0} (i : Instr) (f : Form Instr) (word : List ℕ) (notes : List (List ℕ)) (args : List Node) (told : Result Node E) →
    f ≡ form_of i → word ≡ f.word → notes ≡ map note_of (entry_names f.entry) → args ≡ nodes_behind f.operands →
    IfOk told (λ n. n ≡ node (body.Prim word notes args)) → IfOk told (λ n. n ≡ instruction_node i)
node_told i f word notes args (Ok n) is same_word same_notes same_args made =
    made ∙ (λ j. node (body.Prim (same_word j) (same_notes j) (same_args j))) ∙ node_of_form i f is
node_told i f word notes args (Err e) is same_word same_notes same_args made = tt
