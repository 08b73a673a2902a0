-- What is read of a word with operands is what the word makes of them, once it is known to take them.
use Rattle.std.proofs.Common.{◌≡◌, ℕ, Bool, true, false, List, Option, None, Some, Ok, refl, sym, ap, ◌∙◌}
use Rattle.std.specs.Prelude.{codes, if◌then◌else◌, is_some}
use Rattle.std.specs.Option.{option_map, option_map_or}
use Rattle.std.specs.Str.{bytes_eq}
use Rattle.value_core.specs.declared.ty.Ty.{Ty}
use Rattle.micheline_text.specs.declared.node.Node.{Node}
use Rattle.michelson_code.specs.declared.instr.Instr.{Instr}
use Rattle.michelson_code.specs.declared.instr.Instr.TheVariants as instr
use Rattle.michelson_reader.specs.CodeFaults.{Reader, entry, number, pushed, with_one, with_two}
use Rattle.michelson_reader.specs.Names.{Words, forms_of_body, forms_of_number, forms_of_two_bodies, forms_of_type, is_in, named}
use Rattle.michelson_reader.specs.Operands.{bodies_form, body_form, formed, number_form, type_form}
use Rattle.michelson_reader.specs.Returned.{read_of}
use Rattle.michelson_reader.specs.TypeFaults.{Read, no_form, then_read, type_read}
use Rattle.michelson_reader.proofs.Refusals.{is_in-named}

-- ---- words that are in a table

found : {A : Type 0} (name : List ℕ) (words : Words A) → is_in name words ≡ true → is_some (named name words) ≡ true
found name words is = is_in-named name words ∙ is

none_of : {A : Type 0} (o : Option A) → is_some o ≡ false → o ≡ None
none_of None is = refl
none_of (Some x) is = absurd cc

pub not_found : {A : Type 0} (name : List ℕ) (words : Words A) → is_in name words ≡ false → named name words ≡ None
not_found name words isnt = none_of (named name words) (is_in-named name words ∙ isnt)

no_map : {A B : Type 0} (f : A → B) (o : Option A) → Path (Option B) None (option_map f o) → o ≡ None
no_map f None is = refl
no_map f (Some x) is = absurd cc

pub no_number : (name : List ℕ) (n : ℕ) → Path (Option (ℕ × Instr)) None (option_map (λ f. (f.0, f.1 n)) (named name forms_of_number)) → named name forms_of_number ≡ None
no_number name n is = no_map {B = ℕ × Instr} (λ (f : ℕ × (ℕ → Instr)). (f.0, f.1 n)) (named name forms_of_number) is

still_some : {A B : Type 0} (f : A → B) (o : Option A) → is_some (option_map f o) ≡ is_some o
still_some f None = refl
still_some f (Some x) = refl

-- a word is in a table where something is made by it
pub is_in-made : {A B : Type 0} (name : List ℕ) (words : Words A) (f : A → B) → is_some (option_map f (named name words)) ≡ is_in name words
is_in-made name words f = still_some f (named name words) ∙ is_in-named name words

-- ---- what they make

abbrev Numbered : Type 0
Numbered = Option (ℕ × (ℕ → Instr))

second_made : (o : Numbered) (n least : ℕ) (i : Instr) → Path (Option (ℕ × Instr)) (Some (least, i)) (option_map (λ f. (f.0, f.1 n)) o) → option_map (λ f. f.1 n) o ≡ Some i
second_made None n least i is = absurd cc
second_made (Some f) n least i is = ap (option_map (λ (p : ℕ × Instr). p.1)) (sym is)

-- the instruction that a word makes of a number
pub number_made : (at : ℕ) (name : List ℕ) (n least : ℕ) (i : Instr) → Path (Option (ℕ × Instr)) (Some (least, i)) (option_map (λ f. (f.0, f.1 n)) (named name forms_of_number)) →
    formed at name (option_map (λ f. f.1 n) (named name forms_of_number)) ≡ Ok i
number_made at name n least i is = ap (formed at name) (second_made (named name forms_of_number) n least i is)

pub number_not_made : (at : ℕ) (name : List ℕ) (n : ℕ) → Path (Option (ℕ × Instr)) None (option_map (λ f. (f.0, f.1 n)) (named name forms_of_number)) →
    formed at name (option_map (λ f. f.1 n) (named name forms_of_number)) ≡ no_form at name
number_not_made at name n is = ap (λ (o : Numbered). formed at name (option_map (λ (f : ℕ × (ℕ → Instr)). f.1 n) o)) (no_number name n is)

module _ (at : ℕ) (name : List ℕ) where
  some_made : {A : Type 0} (o : Option (A → Instr)) (r : Read A) (rest : Read Instr) → is_some o ≡ true →
      option_map_or (λ f. then_read r (λ x. Ok (f x))) o rest ≡ then_read r (λ x. formed at name (option_map (λ f. f x) o))
  some_made None r rest is = absurd cc
  some_made (Some f) r rest is = refl

  some_number : (o : Numbered) (x : Node) (least : ℕ) (i : Instr) (rest : Read Instr) → Path (Option (ℕ × Instr)) (Some (least, i)) (option_map (λ f. (f.0, f.1 0)) o) →
      option_map_or (λ f. then_read (number at f.0 x) (λ n. Ok (f.1 n))) o rest ≡ then_read (number at least x) (λ n. formed at name (option_map (λ f. f.1 n) o))
  some_number None x least i rest is = absurd cc
  some_number (Some f) x least i rest is =
      let same : least ≡ f.0 = ap (λ (o : Option (ℕ × Instr)). option_map_or (λ (p : ℕ × Instr). p.0) o 0) is in
      ap (λ (from : ℕ). then_read (number at from x) (λ n. Ok (f.1 n))) (sym same)

  some_bodies : (o : Option (List Instr → List Instr → Instr)) (r s : Read (List Instr)) (rest : Read Instr) → is_some o ≡ true →
      option_map_or (λ f. then_read r (λ c. then_read s (λ d. Ok (f c d)))) o rest ≡ then_read r (λ c. then_read s (λ d. formed at name (option_map (λ f. f c d) o)))
  some_bodies None r s rest is = absurd cc
  some_bodies (Some f) r s rest is = refl

  -- ---- with one operand

  abbrev one_by : List (List ℕ) → Reader → Bool → Numbered → Option (Ty → Instr) → Read Instr
  one_by notes x contract number_ type =
      if contract then then_read (entry at notes) (λ e. then_read (type_read x.node) (λ t. Ok (instr.Contract e t)))
      else option_map_or (λ f. then_read (number at f.0 x.node) (λ n. Ok (f.1 n))) number_
      (option_map_or (λ f. then_read (type_read x.node) (λ t. Ok (f t))) type
      (option_map_or (λ f. then_read x.code (λ c. Ok (f c))) (named name forms_of_body) (no_form at name)))

  module _ (notes : List (List ℕ)) (x : Node) (isnt : bytes_eq name (codes "CONTRACT") ≡ false) where
    pub one_of_number : (least : ℕ) (i : Instr) → Path (Option (ℕ × Instr)) (Some (least, i)) (option_map (λ f. (f.0, f.1 0)) (named name forms_of_number)) →
        with_one at name notes (read_of x) ≡ number_form at name least x
    one_of_number least i is =
        (λ j. one_by notes (read_of x) (isnt j) (named name forms_of_number) (named name forms_of_type))
        ∙ some_number (named name forms_of_number) x least i _ is

    module _ (none : named name forms_of_number ≡ None) where
      pub one_of_type : is_in name forms_of_type ≡ true → with_one at name notes (read_of x) ≡ type_form at name x
      one_of_type is =
          (λ j. one_by notes (read_of x) (isnt j) (none j) (named name forms_of_type))
          ∙ some_made (named name forms_of_type) (type_read x) _ (found name forms_of_type is)

      pub one_of_body : is_in name forms_of_type ≡ false → is_in name forms_of_body ≡ true → with_one at name notes (read_of x) ≡ body_form at name x
      one_of_body no_type is =
          (λ j. one_by notes (read_of x) (isnt j) (none j) (not_found name forms_of_type no_type j))
          ∙ some_made (named name forms_of_body) (read_of x).code _ (found name forms_of_body is)

  -- ---- with two operands

  abbrev two_by : Reader → Reader → Bool → Bool → Bool → Read Instr
  two_by x y push empty dip =
      if push then then_read (type_read x.node) (λ t. then_read (pushed t y.node) (λ v. Ok (instr.Push t v)))
      else if empty then then_read (type_read x.node) (λ k. then_read (type_read y.node) (λ v. Ok (instr.EmptyMap k v)))
      else if dip then then_read (number at 0 x.node) (λ n. then_read y.code (λ c. Ok (instr.DipN n c)))
      else option_map_or (λ f. then_read x.code (λ c. then_read y.code (λ d. Ok (f c d)))) (named name forms_of_two_bodies) (no_form at name)

  pub two_of_bodies : (x y : Node) → bytes_eq name (codes "PUSH") ≡ false → bytes_eq name (codes "EMPTY_MAP") ≡ false → bytes_eq name (codes "DIP") ≡ false →
      is_in name forms_of_two_bodies ≡ true → with_two at name (read_of x) (read_of y) ≡ bodies_form at name x y
  two_of_bodies x y push empty dip is =
      (λ j. two_by (read_of x) (read_of y) (push j) (empty j) (dip j))
      ∙ some_bodies (named name forms_of_two_bodies) (read_of x).code (read_of y).code _ (found name forms_of_two_bodies is)
