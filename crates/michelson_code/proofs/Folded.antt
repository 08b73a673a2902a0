-- What is said of an instruction, by its form.
use Rattle.std.proofs.Common.{◌≡◌, ℕ, Bool, true, List, map, refl, ap, sym, ◌∙◌}
use Rattle.std.specs.List.{list_all}
use Rattle.std.proofs.lemmas.List.Folds.{list_all-map}
use Rattle.value_core.specs.Depth.{greatest}
use Rattle.michelson_code.specs.declared.instr.Instr.{Instr}
use Rattle.michelson_code.specs.declared.instr.Instr.TheFolds.{fold_out-Instr}
use Rattle.michelson_code.specs.Brackets.{brackets_at, brackets_of, operand_brackets}
use Rattle.michelson_code.specs.Forms.{Form, form_of}
use Rattle.michelson_code.specs.Lawful.{is_lawful_form, is_lawful_instr, lawful_at}
use Rattle.michelson_code.specs.Printable.{fit_at, is_fit, is_fit_operand}
use Rattle.michelson_code.specs.Levels.{fold_form, form_map, operand_map}

-- it is lawful where its form is, by its bodies
pub one_lawful : (i : Instr) (f : Form Instr) → f ≡ form_of i → is_lawful_instr i ≡ is_lawful_form (form_map is_lawful_instr f)
one_lawful i f is =
    fold_form lawful_at is_lawful_form is_lawful_instr (fold_out-Instr Bool lawful_at) (λ x. refl) i
    ∙ ap (λ (g : Form Instr). is_lawful_form (form_map is_lawful_instr g)) (sym is)

-- a body is lawful where each of its instructions is
pub body_lawful : (c : List Instr) → list_all is_lawful_instr c ≡ true → list_all (λ lawful. lawful) (map is_lawful_instr c) ≡ true
body_lawful c h = list_all-map (λ (lawful : Bool). lawful) is_lawful_instr c ∙ h

abbrev is_fit_form : Form Bool → Bool
is_fit_form f = list_all is_fit_operand f.operands

-- it is fit where its operands are
pub one_fit : (i : Instr) (f : Form Instr) → f ≡ form_of i → is_fit i ≡ list_all is_fit_operand (map (operand_map is_fit) f.operands)
one_fit i f is =
    fold_form fit_at is_fit_form is_fit (fold_out-Instr Bool fit_at) (λ x. refl) i
    ∙ ap (λ (g : Form Instr). is_fit_form (form_map is_fit g)) (sym is)

-- a body is fit where each of its instructions is
pub body_fit : (c : List Instr) → list_all (λ fit. fit) (map is_fit c) ≡ list_all is_fit c
body_fit c = list_all-map (λ (fit : Bool). fit) is_fit c

-- the brackets behind a word
abbrev pub behind : Form ℕ → ℕ
behind f = greatest (map operand_brackets f.operands)

-- its brackets are those of its operands
pub one_brackets : (i : Instr) (f : Form Instr) → f ≡ form_of i → brackets_of i ≡ greatest (map operand_brackets (map (operand_map brackets_of) f.operands))
one_brackets i f is =
    fold_form brackets_at behind brackets_of (fold_out-Instr ℕ brackets_at) (λ x. refl) i
    ∙ ap (λ (g : Form Instr). behind (form_map brackets_of g)) (sym is)
