-- The node that is printed for a lawful code of fit instructions is written for it.
use Rattle.std.proofs.Common.{◌≡◌, ℕ, Bool, true, List, [], ◌∷◌, map, pos, Option, None, Some, refl, ap, sym, ◌∙◌}
use Rattle.std.specs.Prelude.{◌&&◌}
use Rattle.std.specs.List.{AllByRecursion, list_all}
use Rattle.std.proofs.lemmas.Bool.{and_from, and_parts}
use Rattle.std.proofs.lemmas.Cmp.{nat_list_eq_equiv}
use Rattle.value_core.specs.declared.ty.Ty.{Ty}
use Rattle.value_core.specs.declared.val.Val.{Val}
use Rattle.value_core.specs.Kinds.{is_passable}
use Rattle.value_core.specs.Lawful.{is_lawful}
use Rattle.micheline_text.specs.declared.node.Body.TheViews.{out-Body}
use Rattle.michelson_code.specs.declared.instr.Instr.{Instr}
use Rattle.michelson_code.specs.declared.instr.Instr.TheFolds.{fold_out-Instr}
use Rattle.data_nodes.specs.Nodes.{all_are}
use Rattle.data_nodes.specs.Data.{is_written}
use Rattle.data_nodes.specs.Printed.{node_of}
use Rattle.data_nodes.proofs.WrittenNodes.{data_is_written, number_written, sequence_written}
use Rattle.data_nodes.proofs.NodeLevels.{shows_prim}
use Rattle.michelson_code.specs.Forms.{Form, Operand, ANumber, AType, SomeData, ACode, bodies, form_of}
use Rattle.michelson_reader.specs.Code.{is_code, is_entry, is_form_body, is_instruction, is_operand}
use Rattle.michelson_reader.specs.Printed.{code_node, entry_names, instruction_node, operand_node}
use Rattle.michelson_code.specs.Lawful.{is_lawful_form, is_lawful_instr, is_lawful_name, is_lawful_operand}
use Rattle.michelson_code.specs.Printable.{fit_at, is_datum, is_fit, is_fit_operand, is_pushed}
use Rattle.michelson_code.proofs.Folded.{one_lawful}
use Rattle.michelson_code.specs.Levels.{EachIn, fold_form, form_map, induction, operand_map}
use Rattle.michelson_reader.proofs.CodeNodes.{form_node, node-level}
use Rattle.michelson_reader.proofs.FormLevels.{is_instruction-level}
use Rattle.michelson_reader.proofs.PassableData.{passable_is_data}
use Rattle.michelson_reader.proofs.PrintedTypes.{type_is_written}

abbrev Written : Instr → Type 0
Written i = is_lawful_instr i ≡ true → is_fit i ≡ true → is_instruction i (instruction_node i) ≡ true

-- ---- operands

body_written : (c : List Instr) → AllByRecursion Written c → list_all (λ lawful. lawful) (map is_lawful_instr c) ≡ true → list_all (λ fit. fit) (map is_fit c) ≡ true →
    all_are (map is_instruction c) (map instruction_node c) ≡ true
body_written [] h lawful fit = refl
body_written (i ∷ c) h lawful fit =
    let law = and_parts _ _ lawful in
    let both = and_parts _ _ fit in
    and_from _ _ (h.0 law.0 both.0) (body_written c h.1 law.1 both.1)

pushed_written : (t : Ty) (v : Val) → is_lawful v ≡ true → is_pushed t v ≡ true → (is_datum t v && is_written v (node_of v)) ≡ true
pushed_written t v lawful fit =
    let both = and_parts (is_passable t) (is_datum t v) fit in
    let typed = (and_parts _ _ both.1).0 in
    and_from _ _ both.1 (data_is_written v (passable_is_data v t typed both.0) lawful)

operands_written : (os : List (Operand Instr)) → EachIn Written (bodies os) → list_all is_lawful_operand (map (operand_map is_lawful_instr) os) ≡ true → list_all is_fit_operand (map (operand_map is_fit) os) ≡ true →
    all_are (map is_operand (map (operand_map is_instruction) os)) (map operand_node (map (operand_map instruction_node) os)) ≡ true
operands_written [] h lawful fit = refl
operands_written (ANumber least n ∷ os) h lawful fit =
    let law = and_parts _ _ lawful in
    let both = and_parts _ _ fit in
    and_from _ _ (and_from _ _ both.0 (number_written (pos n))) (operands_written os h law.1 both.1)
operands_written (AType t ∷ os) h lawful fit = and_from _ _ (type_is_written t) (operands_written os h lawful fit)
operands_written (SomeData t v ∷ os) h lawful fit =
    let law = and_parts _ _ lawful in
    let both = and_parts _ _ fit in
    and_from _ _ (pushed_written t v law.0 both.0) (operands_written os h law.1 both.1)
operands_written (ACode c ∷ os) h lawful fit =
    let law = and_parts _ _ lawful in
    let both = and_parts _ _ fit in
    and_from _ _ (sequence_written (map is_instruction c) (map instruction_node c) (body_written c h.0 law.0 both.0)) (operands_written os h.1 law.1 both.1)

-- ---- instructions

entry_written : (e : Option (Option (List ℕ))) → is_lawful_name e ≡ true → is_entry e (map (λ name. 37 ∷ name) (entry_names e)) ≡ true
entry_written None fit = refl
entry_written (Some None) fit = refl
entry_written (Some (Some name)) fit = and_from _ _ (and_from _ _ (nat_list_eq_equiv.refl name) refl) fit

abbrev is_fit_form : Form Bool → Bool
is_fit_form f = list_all is_fit_operand f.operands

form_written : (f : Form Instr) → EachIn Written (bodies f.operands) → is_lawful_form (form_map is_lawful_instr f) ≡ true → is_fit_form (form_map is_fit f) ≡ true →
    is_form_body (form_map is_instruction f) (out-Body (form_node (form_map instruction_node f)).body) ≡ true
form_written f h lawful fit =
    let both = and_parts _ _ lawful in
    ap (is_form_body (form_map is_instruction f)) (shows_prim f.word (map (λ name. 37 ∷ name) (entry_names f.entry)) (map operand_node (map (operand_map instruction_node) f.operands)))
    ∙ and_from _ _ (and_from _ _ (nat_list_eq_equiv.refl f.word) (entry_written f.entry both.0)) (operands_written f.operands h both.1 fit)

fit-level : (i : Instr) → is_fit i ≡ is_fit_form (form_map is_fit (form_of i))
fit-level = fold_form fit_at is_fit_form is_fit (fold_out-Instr Bool fit_at) (λ x. refl)

instruction_is_written : (i : Instr) → Written i
instruction_is_written = induction Written (λ i h lawful fit.
    ap (is_instruction i) (node-level i) ∙ is_instruction-level i (form_node (form_map instruction_node (form_of i)))
    ∙ form_written (form_of i) h (sym (one_lawful i (form_of i) refl) ∙ lawful) (sym (fit-level i) ∙ fit))

-- ---- code

all_written : (c : List Instr) → list_all is_lawful_instr c ≡ true → list_all is_fit c ≡ true → all_are (map is_instruction c) (map instruction_node c) ≡ true
all_written [] lawful fit = refl
all_written (i ∷ c) lawful fit =
    let law = and_parts _ _ lawful in
    let both = and_parts _ _ fit in
    and_from _ _ (instruction_is_written i law.0 both.0) (all_written c law.1 both.1)

-- the node of a lawful code of fit instructions is written for it
pub code_is_written : (c : List Instr) → list_all is_lawful_instr c ≡ true → list_all is_fit c ≡ true → is_code c (code_node c) ≡ true
code_is_written c lawful fit = sequence_written (map is_instruction c) (map instruction_node c) (all_written c lawful fit)
