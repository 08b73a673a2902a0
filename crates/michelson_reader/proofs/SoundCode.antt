-- The node that is printed for a lawful code is lawful and well named, with the code's brackets.
use Rattle.std.proofs.Common.{◌≡◌, ℕ, ◌^◌, pos, true, List, [], ◌∷◌, map, Option, None, Some, refl, sym, ap, subst, ◌∙◌, arith}
use Rattle.std.specs.Prelude.{nat_lt}
use Rattle.std.specs.List.{AllByRecursion, list_all}
use Rattle.std.proofs.lemmas.Bool.{and_from, and_parts}
use Rattle.std.proofs.lemmas.Bool.Decides.{nat_tests}
use Rattle.std.proofs.lemmas.Int.{ints}
use Rattle.value_core.specs.Lawful.{is_number}
use Rattle.value_core.specs.Leaves.{is_name}
use Rattle.value_core.specs.Leaves as leaves
use Rattle.micheline_text.specs.declared.node.Node.{Node}
use Rattle.micheline_text.specs.Again.{argument_depth, is_annotation, is_word}
use Rattle.micheline_text.specs.Kinds.{is_note_byte}
use Rattle.michelson_code.specs.declared.instr.Instr.{Instr}
use Rattle.michelson_code.specs.declared.instr.Instr.TheOpen as one
use Rattle.michelson_code.specs.declared.instr.Instr.TheOpen.{Instr-F}
use Rattle.michelson_code.specs.declared.instr.Instr.TheViews.{out-Instr}
use Rattle.michelson_code.specs.Brackets.{brackets_of, code_brackets, nesting_of, operand_brackets}
use Rattle.michelson_code.specs.Forms.{Form, Operand, ANumber, AType, SomeData, ACode, bodies, form_at, form_of}
use Rattle.michelson_code.specs.Lawful.{is_lawful_instr, is_lawful_name, is_lawful_operand}
use Rattle.michelson_code.specs.Levels.{EachIn, induction, operand_map}
use Rattle.michelson_code.proofs.Folded.{one_brackets, one_lawful}
use Rattle.data_nodes.specs.Printed.{node_of}
use Rattle.michelson_reader.specs.Printed.{code_node, entry_names, instruction_node, operand_node}
use Rattle.michelson_reader.proofs.CodeNodes.{node-level}
use Rattle.michelson_reader.proofs.SoundNodes.{AllFit, Fit, fit_of, inside, int_sound, prim_sound, seq_sound}
use Rattle.michelson_reader.proofs.SoundTypes.{type_fits}
use Rattle.michelson_reader.proofs.SoundValues.{value_sound}

-- ---- names as annotations

note_byte : (b : ℕ) → leaves.is_word_byte b ≡ true → is_note_byte b ≡ true
note_byte b h = grind (arith, nat_tests)

note_bytes : (bytes : List ℕ) → list_all leaves.is_word_byte bytes ≡ true → list_all is_note_byte bytes ≡ true
note_bytes [] h = refl
note_bytes (b ∷ bytes) h = let both = and_parts _ _ h in and_from _ _ (note_byte b both.0) (note_bytes bytes both.1)

-- a name behind `%` is an annotation
pub name_annotates : (name : List ℕ) → is_name name ≡ true → is_annotation (37 ∷ name) ≡ true
name_annotates name h = note_bytes name (and_parts _ _ h).1

entry_annotates : (e : Option (Option (List ℕ))) → is_lawful_name e ≡ true → list_all is_annotation (map (λ name. 37 ∷ name) (entry_names e)) ≡ true
entry_annotates None h = refl
entry_annotates (Some None) h = refl
entry_annotates (Some (Some name)) h = and_from _ _ (name_annotates name h) refl

-- ---- operands

abbrev IsFitInstr : Instr → Type 0
IsFitInstr i = is_lawful_instr i ≡ true → Fit inside (instruction_node i) (brackets_of i)

count_is_number : (n : ℕ) → nat_lt n (2 ^ 32) ≡ true → is_number (pos n) ≡ true
count_is_number n h = grind (arith, ints, nat_tests)

body_fits : (c : List Instr) → AllByRecursion IsFitInstr c → list_all (λ lawful. lawful) (map is_lawful_instr c) ≡ true → AllFit inside (map instruction_node c) (map brackets_of c)
body_fits [] h lawful = tt
body_fits (i ∷ c) h lawful = let both = and_parts _ _ lawful in (h.0 both.0, body_fits c h.1 both.1)

operands_fit : (os : List (Operand Instr)) → EachIn IsFitInstr (bodies os) → list_all is_lawful_operand (map (operand_map is_lawful_instr) os) ≡ true →
    AllFit argument_depth (map operand_node (map (operand_map instruction_node) os)) (map operand_brackets (map (operand_map brackets_of) os))
operands_fit [] h lawful = tt
operands_fit (ANumber least n ∷ os) h lawful =
    let both = and_parts _ _ lawful in
    (fit_of argument_depth _ _ (int_sound (pos n) (count_is_number n both.0)), operands_fit os h both.1)
operands_fit (AType t ∷ os) h lawful = (type_fits t, operands_fit os h lawful)
operands_fit (SomeData t v ∷ os) h lawful =
    let both = and_parts _ _ lawful in
    (fit_of argument_depth (node_of v) (nesting_of v) (value_sound v both.0), operands_fit os h both.1)
operands_fit (ACode c ∷ os) h lawful =
    let both = and_parts _ _ lawful in
    (fit_of argument_depth _ _ (seq_sound (map instruction_node c) (map brackets_of c) (body_fits c h.0 both.0)), operands_fit os h.1 both.1)

-- ---- instructions

word_is : (x : Instr-F Instr) → is_word (form_at x).word ≡ true
word_is one.Drop = refl
word_is _ = refl

instr_step : (i : Instr) → EachIn IsFitInstr (bodies (form_of i).operands) → IsFitInstr i
instr_step i h lawful =
    let f : Form Instr = form_of i in
    let both = and_parts _ _ (sym (one_lawful i f refl) ∙ lawful) in
    let args : List Node = map operand_node (map (operand_map instruction_node) f.operands) in
    let ks : List ℕ = map operand_brackets (map (operand_map brackets_of) f.operands) in
    let s = prim_sound f.word (map (λ name. 37 ∷ name) (entry_names f.entry)) args ks (word_is (out-Instr i)) (entry_annotates f.entry both.0) (operands_fit f.operands h both.1) in
    subst (λ (n : Node). Fit inside n (brackets_of i)) (sym (node-level i))
    (record { lawful = s.lawful; named = s.named; deep = ap inside s.nested ∙ sym (one_brackets i f refl) })

instr_fits : (i : Instr) → IsFitInstr i
instr_fits = induction IsFitInstr instr_step

all_fit : (c : List Instr) → list_all is_lawful_instr c ≡ true → AllFit inside (map instruction_node c) (map brackets_of c)
all_fit [] lawful = tt
all_fit (i ∷ c) lawful = let both = and_parts _ _ lawful in (instr_fits i both.0, all_fit c both.1)

-- the node of a code as an argument
pub code_fits : (c : List Instr) → list_all is_lawful_instr c ≡ true → Fit argument_depth (code_node c) (code_brackets c)
code_fits c lawful = fit_of argument_depth _ _ (seq_sound (map instruction_node c) (map brackets_of c) (all_fit c lawful))
