-- What is read at a word, by the kind of the word.
use Rattle.std.proofs.Common.{◌≡◌, ℕ, Bool, true, false, List, Option, None, Some, Ok, refl}
use Rattle.std.specs.Prelude.{codes, if◌then◌else◌}
use Rattle.std.specs.Option.{option_map_or}
use Rattle.std.specs.Str.{bytes_eq}
use Rattle.michelson_code.specs.declared.instr.Instr.{Instr}
use Rattle.michelson_code.specs.declared.instr.Instr.TheVariants as instr
use Rattle.value_core.specs.declared.ty.Ty.{Ty}
use Rattle.michelson_reader.specs.CodeFaults.{Reader, alone, entry, number, pushed, with_one, with_two}
use Rattle.michelson_reader.specs.Names.{named, plain_forms, forms_of_number, forms_of_type, forms_of_body, forms_of_two_bodies}
use Rattle.michelson_reader.specs.TypeFaults.{Read, no_form, then_read, type_read}
use Rattle.michelson_reader.proofs.WordLaws.{Alone, Plain, AnEntry, NotAlone, alone_of, One, WithNumber, WithType, WithBody, WithEntry, NotWithOne, one_of, with_number, Two, WithData, WithTypes, WithNumberAndBody, WithBodies, NotWithTwo, two_of}

abbrev pub read_alone : ℕ → List ℕ → List (List ℕ) → Alone → Read Instr
read_alone at name notes (Plain i) = Ok i
read_alone at name notes AnEntry = then_read (entry at notes) (λ e. Ok (instr.SelfEntry e))
read_alone at name notes NotAlone = no_form at name

abbrev pub read_one : ℕ → List ℕ → List (List ℕ) → Reader → One → Read Instr
read_one at name notes x (WithNumber least make) = then_read (number at least x.node) (λ n. Ok (make n))
read_one at name notes x (WithType make) = then_read (type_read x.node) (λ t. Ok (make t))
read_one at name notes x (WithBody make) = then_read x.code (λ c. Ok (make c))
read_one at name notes x WithEntry = then_read (entry at notes) (λ e. then_read (type_read x.node) (λ t. Ok (instr.Contract e t)))
read_one at name notes x NotWithOne = no_form at name

abbrev pub read_two : ℕ → List ℕ → Reader → Reader → Two → Read Instr
read_two at name x y WithData = then_read (type_read x.node) (λ t. then_read (pushed t y.node) (λ v. Ok (instr.Push t v)))
read_two at name x y WithTypes = then_read (type_read x.node) (λ k. then_read (type_read y.node) (λ v. Ok (instr.EmptyMap k v)))
read_two at name x y WithNumberAndBody = then_read (number at 0 x.node) (λ n. then_read y.code (λ c. Ok (instr.DipN n c)))
read_two at name x y (WithBodies make) = then_read x.code (λ c. then_read y.code (λ d. Ok (make c d)))
read_two at name x y NotWithTwo = no_form at name

pub alone-is : (at : ℕ) (name : List ℕ) (notes : List (List ℕ)) → alone at name notes ≡ read_alone at name notes (alone_of name)
alone-is at name notes = by (bytes_eq name (codes "SELF")) (named name plain_forms)
  where
    by : (self : Bool) (plain : Option Instr) →
        (if self then then_read (entry at notes) (λ e. Ok (instr.SelfEntry e)) else option_map_or (λ i. Ok i) plain (no_form at name))
        ≡ read_alone at name notes (if self then AnEntry else option_map_or Plain plain NotAlone)
    by true plain = refl
    by false (Some i) = refl
    by false None = refl

pub one-is : (at : ℕ) (name : List ℕ) (notes : List (List ℕ)) (x : Reader) → with_one at name notes x ≡ read_one at name notes x (one_of name)
one-is at name notes x = by (bytes_eq name (codes "CONTRACT")) (named name forms_of_number) (named name forms_of_type) (named name forms_of_body)
  where
    by : (contract : Bool) (number_ : Option (ℕ × (ℕ → Instr))) (type : Option (Ty → Instr)) (body : Option (List Instr → Instr)) →
        (if contract then then_read (entry at notes) (λ e. then_read (type_read x.node) (λ t. Ok (instr.Contract e t)))
        else option_map_or (λ f. then_read (number at f.0 x.node) (λ n. Ok (f.1 n))) number_
        (option_map_or (λ f. then_read (type_read x.node) (λ t. Ok (f t))) type
        (option_map_or (λ f. then_read x.code (λ c. Ok (f c))) body (no_form at name))))
        ≡ read_one at name notes x (if contract then WithEntry else option_map_or with_number number_ (option_map_or WithType type (option_map_or WithBody body NotWithOne)))
    by true number_ type body = refl
    by false (Some f) type body = refl
    by false None (Some f) body = refl
    by false None None (Some f) = refl
    by false None None None = refl

pub two-is : (at : ℕ) (name : List ℕ) (x y : Reader) → with_two at name x y ≡ read_two at name x y (two_of name)
two-is at name x y = by (bytes_eq name (codes "PUSH")) (bytes_eq name (codes "EMPTY_MAP")) (bytes_eq name (codes "DIP")) (named name forms_of_two_bodies)
  where
    by : (push empty dip : Bool) (bodies : Option (List Instr → List Instr → Instr)) →
        (if push then then_read (type_read x.node) (λ t. then_read (pushed t y.node) (λ v. Ok (instr.Push t v)))
        else if empty then then_read (type_read x.node) (λ k. then_read (type_read y.node) (λ v. Ok (instr.EmptyMap k v)))
        else if dip then then_read (number at 0 x.node) (λ n. then_read y.code (λ c. Ok (instr.DipN n c)))
        else option_map_or (λ f. then_read x.code (λ c. then_read y.code (λ d. Ok (f c d)))) bodies (no_form at name))
        ≡ read_two at name x y (if push then WithData else if empty then WithTypes else if dip then WithNumberAndBody else option_map_or WithBodies bodies NotWithTwo)
    by true empty dip bodies = refl
    by false true dip bodies = refl
    by false false true bodies = refl
    by false false false (Some f) = refl
    by false false false None = refl
