-- Instructions don't turn on the places of nodes.
use Rattle.std.proofs.Common.{◌≡◌, Bool, List, [], ◌∷◌, map, pos, refl, ap, sym, ◌∙◌}
use Rattle.std.specs.Prelude.{◌&&◌}
use Rattle.std.specs.List.{AllByRecursion}
use Rattle.std.specs.Str.{bytes_eq}
use Rattle.micheline_text.specs.declared.node.Node.{Node}
use Rattle.micheline_text.specs.declared.node.Body.{Body}
use Rattle.micheline_text.specs.declared.node.Body.TheOpen as body
use Rattle.micheline_text.specs.declared.node.Body.TheOpen.{Body-F}
use Rattle.micheline_text.specs.declared.node.Body.TheViews.{out-Body}
use Rattle.micheline_text.specs.Again.{unplaced}
use Rattle.michelson_code.specs.declared.instr.Instr.{Instr}
use Rattle.data_nodes.specs.Nodes.{Test}
use Rattle.data_nodes.proofs.Unplaced.{IgnoresPlaces, all_are-unplaced, bare, is_numeral-unplaced, is_sequence-unplaced, level-unplaced}
use Rattle.data_nodes.proofs.WrittenNodes.{is_written-unplaced}
use Rattle.michelson_code.specs.Forms.{Form, Operand, ANumber, AType, SomeData, ACode, bodies, form_of}
use Rattle.michelson_code.specs.Printable.{is_count, is_datum}
use Rattle.michelson_reader.specs.Code.{is_code, is_entry, is_form_body, is_instruction, is_operand}
use Rattle.michelson_code.specs.Levels.{EachIn, form_map, induction, operand_map}
use Rattle.michelson_reader.proofs.FormLevels.{is_instruction-level}
use Rattle.michelson_reader.proofs.UnplacedTypes.{is_type-unplaced}

abbrev Ignored : Instr → Type 0
Ignored i = IgnoresPlaces (is_instruction i)

body_ignored : (c : List Instr) → AllByRecursion Ignored c → AllByRecursion IgnoresPlaces (map is_instruction c)
body_ignored [] h = tt
body_ignored (i ∷ c) h = (h.0, body_ignored c h.1)

operands_ignored : (os : List (Operand Instr)) → EachIn Ignored (bodies os) → AllByRecursion IgnoresPlaces (map is_operand (map (operand_map is_instruction) os))
operands_ignored [] h = tt
operands_ignored (ANumber least n ∷ os) h = (λ m. ap (λ (b : Bool). is_count least n && b) (is_numeral-unplaced (pos n) m), operands_ignored os h)
operands_ignored (AType t ∷ os) h = (is_type-unplaced t, operands_ignored os h)
operands_ignored (SomeData t v ∷ os) h = (λ m. ap (λ (b : Bool). is_datum t v && b) (is_written-unplaced v m), operands_ignored os h)
operands_ignored (ACode c ∷ os) h = (is_sequence-unplaced (map is_instruction c) (body_ignored c h.0), operands_ignored os h.1)

form_ignored : (f : Form Test) → AllByRecursion IgnoresPlaces (map is_operand f.operands) → (x : Body-F Body Node) → is_form_body f (bare x) ≡ is_form_body f x
form_ignored f h (body.Prim name notes args) = ap (λ (b : Bool). bytes_eq name f.word && is_entry f.entry notes && b) (all_are-unplaced (map is_operand f.operands) h args)
form_ignored f h _ = refl

-- whether a node is written for an instruction doesn't turn on places
pub is_instruction-unplaced : (i : Instr) → IgnoresPlaces (is_instruction i)
is_instruction-unplaced = induction Ignored (λ i h n.
    let f : Form Test = form_map is_instruction (form_of i) in
    is_instruction-level i (unplaced n)
    ∙ ap (is_form_body f) (level-unplaced n) ∙ form_ignored f (operands_ignored (form_of i).operands h) (out-Body n.body)
    ∙ sym (is_instruction-level i n))

all_ignored : (c : List Instr) → AllByRecursion IgnoresPlaces (map is_instruction c)
all_ignored [] = tt
all_ignored (i ∷ c) = (is_instruction-unplaced i, all_ignored c)

-- whether a node is written for a code doesn't either
pub is_code-unplaced : (c : List Instr) → IgnoresPlaces (is_code c)
is_code-unplaced c = is_sequence-unplaced (map is_instruction c) (all_ignored c)
