-- A word is known exactly where a type or an instruction is written with it.
use Rattle.std.proofs.Common.{◌≡◌, inl, inr, ℕ, Bool, true, false, List, [], ◌∷◌, Option, None, Some, refl, ap, sym, ◌∙◌}
use Rattle.std.specs.Prelude.{◌||◌, ◌↔◌, IsTrue, codes, if◌then◌else◌}
use Rattle.std.specs.List.{AllByRecursion, list_any}
use Rattle.std.specs.Option.{option_map_or}
use Rattle.std.specs.Str.{bytes_eq}
use Rattle.std.proofs.lemmas.Bool.{or_cases}
use Rattle.value_core.specs.declared.ty.Ty.{Ty}
use Rattle.value_core.specs.declared.ty.Ty.TheVariants as type
use Rattle.value_core.specs.declared.ty.Ty.TheOpen as ty
use Rattle.value_core.specs.declared.ty.Ty.TheOpen.{Ty-F}
use Rattle.value_core.specs.declared.val.Val.TheVariants as value
use Rattle.michelson_code.specs.declared.instr.Instr.{Instr}
use Rattle.michelson_code.specs.declared.instr.Instr.TheVariants as instr
use Rattle.michelson_code.specs.declared.instr.Instr.TheOpen as one
use Rattle.michelson_code.specs.declared.instr.Instr.TheOpen.{Instr-F}
use Rattle.michelson_code.specs.declared.instr.Instr.TheViews.{out-Instr}
use Rattle.michelson_code.specs.Forms.{Form, form_at, form_of}
use Rattle.michelson_reader.specs.FaultyNodes.{IsKnownWord}
use Rattle.michelson_reader.specs.Names.{Words, forms_of_body, forms_of_number, forms_of_two_bodies, forms_of_type, is_in, is_known, named, other_forms, plain_forms, plain_types, types_of_one, types_of_two}
use Rattle.michelson_reader.specs.Types.{word_and_parts}
use Rattle.michelson_reader.proofs.ReadLemmas.{named-found}
use Rattle.michelson_reader.proofs.TypesTold.{HasType, plain_rows, rows_of_one, rows_of_two}
use Rattle.michelson_reader.proofs.WordLaws.{alone_of, one_of, two_of, Alone, Plain, AnEntry, NotAlone, AloneForms, One, WithNumber, WithType, WithBody, WithEntry, NotWithOne, OneForms, Two, WithData, WithTypes, WithNumberAndBody, WithBodies, NotWithTwo, TwoForms, alone_forms, one_forms, two_forms, with_number}

abbrev word_of : Form Instr → List ℕ
word_of f = f.word

-- ---- the words of the tables are known

type_is_known : (x : Ty-F Ty) → is_known (word_and_parts x).0 ≡ true
type_is_known ty.Unit = refl
type_is_known _ = refl

instruction_is_known : (x : Instr-F Instr) → is_known (form_at x).word ≡ true
instruction_is_known one.Drop = refl
instruction_is_known _ = refl

is_known_of : (name : List ℕ) → IsKnownWord name → is_known name ≡ true
is_known_of name (inl x) = sym (ap is_known x.1) ∙ type_is_known x.0
is_known_of name (inr i) = sym (ap is_known i.1) ∙ instruction_is_known (out-Instr i.0)

-- ---- a word that is known is in a table

module _ (name : List ℕ) where
  abbrev Written : Type 0
  Written = (i : Instr) × ((form_of i).word ≡ name)

  by_alone : (k : Alone) → alone_of name ≡ k → AloneForms name k → (alone_of name ≡ NotAlone → ⊥) → Written
  by_alone (Plain i) is forms there = (i, ap word_of forms)
  by_alone AnEntry is forms there = (instr.SelfEntry None, ap word_of (forms None))
  by_alone NotAlone is forms there = absurd (there is)

  written_alone : (alone_of name ≡ NotAlone → ⊥) → Written
  written_alone = by_alone (alone_of name) refl (alone_forms name)

  by_one : (k : One) → one_of name ≡ k → OneForms name k → (one_of name ≡ NotWithOne → ⊥) → Written
  by_one (WithNumber least make) is forms there = (make 0, ap word_of (forms 0))
  by_one (WithType make) is forms there = (make type.Unit, ap word_of (forms type.Unit))
  by_one (WithBody make) is forms there = (make [], ap word_of (forms []))
  by_one WithEntry is forms there = (instr.Contract None type.Unit, ap word_of (forms None type.Unit))
  by_one NotWithOne is forms there = absurd (there is)

  written_with_one : (one_of name ≡ NotWithOne → ⊥) → Written
  written_with_one = by_one (one_of name) refl (one_forms name)

  by_two : (k : Two) → two_of name ≡ k → TwoForms name k → (two_of name ≡ NotWithTwo → ⊥) → Written
  by_two WithData is forms there = (instr.Push type.Unit value.Unit, ap word_of (forms type.Unit value.Unit))
  by_two WithTypes is forms there = (instr.EmptyMap type.Unit type.Unit, ap word_of (forms type.Unit type.Unit))
  by_two WithNumberAndBody is forms there = (instr.DipN 0 [], ap word_of (forms 0 []))
  by_two (WithBodies make) is forms there = (make [] [], ap word_of (forms [] []))
  by_two NotWithTwo is forms there = absurd (there is)

  written_with_two : (two_of name ≡ NotWithTwo → ⊥) → Written
  written_with_two = by_two (two_of name) refl (two_forms name)

  -- ---- what is in no table

  not_alone : (b : Bool) (o : Option Instr) → (if b then AnEntry else option_map_or Plain o NotAlone) ≡ NotAlone → (b ≡ false) × (o ≡ None)
  not_alone true o is = absurd cc
  not_alone false (Some i) is = absurd cc
  not_alone false None is = (refl, refl)

  not_with_one : (b : Bool) (number : Option (ℕ × (ℕ → Instr))) (of_type : Option (Ty → Instr)) (body : Option (List Instr → Instr)) →
      (if b then WithEntry else option_map_or with_number number (option_map_or WithType of_type (option_map_or WithBody body NotWithOne))) ≡ NotWithOne →
      (b ≡ false) × (number ≡ None) × (of_type ≡ None) × (body ≡ None)
  not_with_one true number of_type body is = absurd cc
  not_with_one false (Some f) of_type body is = absurd cc
  not_with_one false None (Some f) body is = absurd cc
  not_with_one false None None (Some f) is = absurd cc
  not_with_one false None None None is = (refl, refl, refl, refl)

  not_with_two : (push empty dip : Bool) (bodies : Option (List Instr → List Instr → Instr)) →
      (if push then WithData else if empty then WithTypes else if dip then WithNumberAndBody else option_map_or WithBodies bodies NotWithTwo) ≡ NotWithTwo →
      (push ≡ false) × (empty ≡ false) × (bodies ≡ None)
  not_with_two true empty dip bodies is = absurd cc
  not_with_two false true dip bodies is = absurd cc
  not_with_two false false true bodies is = absurd cc
  not_with_two false false false (Some f) is = absurd cc
  not_with_two false false false None is = (refl, refl, refl)

  none_alone : alone_of name ≡ NotAlone → (bytes_eq name (codes "SELF") ≡ false) × (named name plain_forms ≡ None)
  none_alone = not_alone (bytes_eq name (codes "SELF")) (named name plain_forms)

  none_with_one : one_of name ≡ NotWithOne → (bytes_eq name (codes "CONTRACT") ≡ false) × (named name forms_of_number ≡ None) × (named name forms_of_type ≡ None) × (named name forms_of_body ≡ None)
  none_with_one = not_with_one (bytes_eq name (codes "CONTRACT")) (named name forms_of_number) (named name forms_of_type) (named name forms_of_body)

  none_with_two : two_of name ≡ NotWithTwo → (bytes_eq name (codes "PUSH") ≡ false) × (bytes_eq name (codes "EMPTY_MAP") ≡ false) × (named name forms_of_two_bodies ≡ None)
  none_with_two = not_with_two (bytes_eq name (codes "PUSH")) (bytes_eq name (codes "EMPTY_MAP")) (bytes_eq name (codes "DIP")) (named name forms_of_two_bodies)

  -- ---- what is in a table is found there

  found_in : {A : Type 0} (words : Words A) → is_in name words ≡ true → (a : A) × (named name words ≡ Some a)
  found_in [] there = absurd cc
  found_in {A} (w ∷ words) there = by (bytes_eq name w.0) (found_in words) there
    where
      by : (b : Bool) → (is_in name words ≡ true → (a : A) × (named name words ≡ Some a)) → (b || is_in name words) ≡ true →
          (a : A) × ((if b then Some w.1 else named name words) ≡ Some a)
      by true later is = (w.1, refl)
      by false later is = later is

  isnt_missing : {A : Type 0} (words : Words A) → is_in name words ≡ true → named name words ≡ None → ⊥
  isnt_missing words there none = let found = found_in words there in let is = found.1 in cc

  isnt_false : (b : Bool) → b ≡ true → b ≡ false → ⊥
  isnt_false b is isnt = cc

  of_type : {A : Type 0} (count : ℕ) (words : Words A) → AllByRecursion (λ w. HasType count w.0) words → is_in name words ≡ true → IsKnownWord name
  of_type count words rows there =
      let found = found_in words there in
      let row = named-found (λ w a. HasType count w) name words rows found.0 found.1 in
      inl (row.0, row.1)

  of_other : list_any (bytes_eq name) other_forms ≡ true → Written
  of_other there = elim (or_cases (bytes_eq name (codes "SELF")) _ there) [
    | inl self ↦ written_alone (λ none. isnt_false _ self (none_alone none).0)
    | inr rest ↦ elim (or_cases (bytes_eq name (codes "CONTRACT")) _ rest) [
      | inl contract ↦ written_with_one (λ none. isnt_false _ contract (none_with_one none).0)
      | inr more ↦ elim (or_cases (bytes_eq name (codes "PUSH")) _ more) [
        | inl push ↦ written_with_two (λ none. isnt_false _ push (none_with_two none).0)
        | inr last ↦ elim (or_cases (bytes_eq name (codes "EMPTY_MAP")) _ last) [
          | inl empty ↦ written_with_two (λ none. isnt_false _ empty (none_with_two none).1)
          | inr nothing ↦ absurd cc
        ]
      ]
    ]
  ]

  of_instruction : (((((is_in name plain_forms || is_in name forms_of_number) || is_in name forms_of_type) || is_in name forms_of_body) || is_in name forms_of_two_bodies)
      || list_any (bytes_eq name) other_forms) ≡ true → Written
  of_instruction there = elim (or_cases _ (list_any (bytes_eq name) other_forms) there) [
    | inr other ↦ of_other other
    | inl a ↦ elim (or_cases _ (is_in name forms_of_two_bodies) a) [
      | inr two ↦ written_with_two (λ none. isnt_missing forms_of_two_bodies two (none_with_two none).2)
      | inl b ↦ elim (or_cases _ (is_in name forms_of_body) b) [
        | inr body ↦ written_with_one (λ none. isnt_missing forms_of_body body (none_with_one none).3)
        | inl c ↦ elim (or_cases _ (is_in name forms_of_type) c) [
          | inr typed ↦ written_with_one (λ none. isnt_missing forms_of_type typed (none_with_one none).2)
          | inl d ↦ elim (or_cases (is_in name plain_forms) (is_in name forms_of_number) d) [
            | inl plain ↦ written_alone (λ none. isnt_missing plain_forms plain (none_alone none).1)
            | inr number ↦ written_with_one (λ none. isnt_missing forms_of_number number (none_with_one none).1)
          ]
        ]
      ]
    ]
  ]

  in_a_table : (a b c p q r s t o : Bool) → (a ≡ true → IsKnownWord name) → (b ≡ true → IsKnownWord name) → (c ≡ true → IsKnownWord name) →
      ((((((p || q) || r) || s) || t) || o) ≡ true → IsKnownWord name) → (a || b || c || p || q || r || s || t || o) ≡ true → IsKnownWord name
  in_a_table true b c p q r s t o x y z w is = x refl
  in_a_table false true c p q r s t o x y z w is = y refl
  in_a_table false false true p q r s t o x y z w is = z refl
  in_a_table false false false p q r s t o x y z w is = w is

  known_is : is_known name ≡ true → IsKnownWord name
  known_is = in_a_table (is_in name plain_types) (is_in name types_of_one) (is_in name types_of_two) (is_in name plain_forms) (is_in name forms_of_number)
      (is_in name forms_of_type) (is_in name forms_of_body) (is_in name forms_of_two_bodies) (list_any (bytes_eq name) other_forms)
      (of_type 0 plain_types plain_rows) (of_type 1 types_of_one rows_of_one) (of_type 2 types_of_two rows_of_two) (λ there. inr (of_instruction there))

  -- a word is known by the tables
  pub known_by_tables : IsTrue (is_known name) ↔ IsKnownWord name
  known_by_tables = (known_is, is_known_of name)
