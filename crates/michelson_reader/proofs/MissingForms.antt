-- A word that no form has with so many operands is told itself; of a code, the first instruction at fault is told.
use Rattle.std.proofs.Common.{◌≡◌, ℕ, Bool, true, false, List, [], ◌∷◌, length, map, Option, None, Some, Ok, Err, refl, ap, ◌∙◌}
use Rattle.std.specs.Prelude.{codes, if◌then◌else◌}
use Rattle.std.specs.Option.{option_map_or}
use Rattle.std.specs.Str.{bytes_eq}
use Rattle.value_core.specs.declared.ty.Ty.{Ty}
use Rattle.value_core.specs.declared.ty.Ty.TheVariants as type
use Rattle.value_core.specs.declared.val.Val.TheVariants as value
use Rattle.micheline_text.specs.declared.node.Node.{Node}
use Rattle.micheline_text.specs.declared.node.Body.TheVariants as body
use Rattle.michelson_code.specs.declared.instr.Instr.{Instr}
use Rattle.michelson_code.specs.declared.instr.Instr.TheVariants as instr
use Rattle.michelson_code.specs.Forms.{Form}
use Rattle.michelson_reader.specs.CodeFaults.{alone, applied, code_read, entry, first_found, instruction_read, number, pushed, with_one, with_two}
use Rattle.michelson_reader.specs.FaultyNodes.{HasNoForm}
use Rattle.michelson_reader.specs.Names.{forms_of_body, forms_of_number, forms_of_two_bodies, forms_of_type, named, plain_forms}
use Rattle.michelson_reader.specs.Returned.{each, read_of}
use Rattle.michelson_reader.specs.TypeFaults.{Read, no_form, then_read, type_read}
use Rattle.michelson_reader.proofs.FirstAtFault.{fault_in}
use Rattle.michelson_reader.proofs.NodeReads.{code_seq, instruction_prim}
use Rattle.michelson_reader.proofs.WordLaws.{AloneForms, AnEntry, NotAlone, NotWithOne, NotWithTwo, OneForms, Plain, TwoForms, WithBodies, WithBody, WithData, WithEntry, WithNumberAndBody, WithType, WithTypes, alone_forms, one_forms, two_forms, with_number}

abbrev word_of : Form Instr → List ℕ
word_of f = f.word

abbrev count_of : Form Instr → ℕ
count_of f = length f.operands

-- ---- a word that no form has

module _ (at : ℕ) (name : List ℕ) where
  none_alone : (notes : List (List ℕ)) → HasNoForm name 0 → alone at name notes ≡ no_form at name
  none_alone notes missing = by_kind (bytes_eq name (codes "SELF")) (named name plain_forms) (alone_forms name)
    where
      by_kind : (self : Bool) (plain : Option Instr) → AloneForms name (if self then AnEntry else option_map_or Plain plain NotAlone) →
          (if self then then_read (entry at notes) (λ e. Ok (instr.SelfEntry e)) else option_map_or (λ i. Ok i) plain (no_form at name)) ≡ no_form at name
      by_kind true plain forms = absurd (missing (instr.SelfEntry None) (ap word_of (forms None)) (ap count_of (forms None)))
      by_kind false (Some i) forms = absurd (missing i (ap word_of forms) (ap count_of forms))
      by_kind false None forms = refl

  none_with_one : (notes : List (List ℕ)) (x : Node) → HasNoForm name 1 → with_one at name notes (read_of x) ≡ no_form at name
  none_with_one notes x missing =
      by_kind (bytes_eq name (codes "CONTRACT")) (named name forms_of_number) (named name forms_of_type) (named name forms_of_body) (one_forms name)
    where
      by_kind : (contract : Bool) (of_number : Option (ℕ × (ℕ → Instr))) (of_type : Option (Ty → Instr)) (of_body : Option (List Instr → Instr)) →
          OneForms name (if contract then WithEntry else option_map_or with_number of_number (option_map_or WithType of_type (option_map_or WithBody of_body NotWithOne))) →
          (if contract then then_read (entry at notes) (λ e. then_read (type_read x) (λ t. Ok (instr.Contract e t)))
          else option_map_or (λ f. then_read (number at f.0 x) (λ n. Ok (f.1 n))) of_number
          (option_map_or (λ f. then_read (type_read x) (λ t. Ok (f t))) of_type
          (option_map_or (λ f. then_read (code_read x) (λ c. Ok (f c))) of_body (no_form at name)))) ≡ no_form at name
      by_kind true of_number of_type of_body forms = absurd (missing (instr.Contract None type.Unit) (ap word_of (forms None type.Unit)) (ap count_of (forms None type.Unit)))
      by_kind false (Some f) of_type of_body forms = absurd (missing (f.1 0) (ap word_of (forms 0)) (ap count_of (forms 0)))
      by_kind false None (Some f) of_body forms = absurd (missing (f type.Unit) (ap word_of (forms type.Unit)) (ap count_of (forms type.Unit)))
      by_kind false None None (Some f) forms = absurd (missing (f []) (ap word_of (forms [])) (ap count_of (forms [])))
      by_kind false None None None forms = refl

  none_with_two : (x y : Node) → HasNoForm name 2 → with_two at name (read_of x) (read_of y) ≡ no_form at name
  none_with_two x y missing =
      by_kind (bytes_eq name (codes "PUSH")) (bytes_eq name (codes "EMPTY_MAP")) (bytes_eq name (codes "DIP")) (named name forms_of_two_bodies) (two_forms name)
    where
      by_kind : (push empty dip : Bool) (bodies : Option (List Instr → List Instr → Instr)) →
          TwoForms name (if push then WithData else if empty then WithTypes else if dip then WithNumberAndBody else option_map_or WithBodies bodies NotWithTwo) →
          (if push then then_read (type_read x) (λ t. then_read (pushed t y) (λ v. Ok (instr.Push t v)))
          else if empty then then_read (type_read x) (λ k. then_read (type_read y) (λ v. Ok (instr.EmptyMap k v)))
          else if dip then then_read (number at 0 x) (λ n. then_read (code_read y) (λ c. Ok (instr.DipN n c)))
          else option_map_or (λ f. then_read (code_read x) (λ c. then_read (code_read y) (λ d. Ok (f c d)))) bodies (no_form at name)) ≡ no_form at name
      by_kind true empty dip bodies forms = absurd (missing (instr.Push type.Unit value.Unit) (ap word_of (forms type.Unit value.Unit)) (ap count_of (forms type.Unit value.Unit)))
      by_kind false true dip bodies forms = absurd (missing (instr.EmptyMap type.Unit type.Unit) (ap word_of (forms type.Unit type.Unit)) (ap count_of (forms type.Unit type.Unit)))
      by_kind false false true bodies forms = absurd (missing (instr.DipN 0 []) (ap word_of (forms 0 [])) (ap count_of (forms 0 [])))
      by_kind false false false (Some f) forms = absurd (missing (f [] []) (ap word_of (forms [] [])) (ap count_of (forms [] [])))
      by_kind false false false None forms = refl

  none_applied : (notes : List (List ℕ)) (args : List Node) → HasNoForm name (length args) → applied at name notes (map read_of args) ≡ no_form at name
  none_applied notes [] missing = none_alone notes missing
  none_applied notes (x ∷ []) missing = none_with_one notes x missing
  none_applied notes (x ∷ y ∷ []) missing = none_with_two x y missing
  none_applied notes (x ∷ y ∷ z ∷ more) missing = refl

pub missing_form_is : (n : Node) (name : List ℕ) (notes : List (List ℕ)) (args : List Node) → n.body ≡ body.Prim name notes args → HasNoForm name (length args) →
    instruction_read n ≡ no_form n.at name
missing_form_is n name notes args is missing = instruction_prim n name notes args is ∙ none_applied n.at name notes args missing

-- ---- codes

each_fault : (nodes : List Node) → fault_in (each (map instruction_read nodes)) ≡ first_found (map (λ n. fault_in (instruction_read n)) nodes)
each_fault [] = refl
each_fault (n ∷ nodes) = by_first (instruction_read n) (each (map instruction_read nodes)) (each_fault nodes)
  where
    by_first : (r : Read Instr) (rs : Read (List Instr)) → fault_in rs ≡ first_found (map (λ m. fault_in (instruction_read m)) nodes) →
        fault_in (then_read r (λ i. then_read rs (λ is. Ok (i ∷ is)))) ≡ first_found (fault_in r ∷ map (λ m. fault_in (instruction_read m)) nodes)
    by_first (Ok i) (Ok is) later = later
    by_first (Ok i) (Err e) later = later
    by_first (Err e) rs later = refl

pub code_fault_is : (n : Node) (nodes : List Node) → n.body ≡ body.Seq nodes → fault_in (code_read n) ≡ first_found (map (λ m. fault_in (instruction_read m)) nodes)
code_fault_is n nodes is = ap fault_in (code_seq n nodes is) ∙ each_fault nodes
