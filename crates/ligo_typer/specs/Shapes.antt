-- Fields and cases: which declared type a record or a constructor is of.
use Rattle.std.specs.List.{find, list_all, list_any}
use Rattle.std.specs.Prelude.{Bool, List, None, Option, Some, [], codes, if◌then◌else◌, is_some, length, ℕ, ◌&&◌, ◌==◌, ◌∷◌}
use Rattle.ligo_typer.specs.declared.source_type.SrcTy.{SrcTy}
use Rattle.ligo_typer.specs.Names.{Named, are_distinct, first_of, look, place_of}
use Rattle.ligo_typer.specs.Scopes.{Known}
use Rattle.ligo_typer.specs.Views.{cases_in, fields_in, option_part, record_fields}

-- ---- fields

-- some declared record has a field of the name
abbrev pub is_field : Known → List ℕ → Bool
is_field known word = list_any (λ t. is_some (place_of word (fields_in t))) known.shapes

-- the record has exactly these fields
abbrev pub has_exactly : List (List ℕ) → SrcTy → Bool
has_exactly words t =
    is_some (record_fields t) && (length words == length (fields_in t)) && are_distinct words
    && list_all (λ w. is_some (place_of w (fields_in t))) words

-- the latest declared record with exactly these fields
abbrev pub record_of : Known → List (List ℕ) → Option SrcTy
record_of known words = find (has_exactly words) known.shapes

-- ---- cases

-- what a constructor makes: the case at a place of a variant, with the type of its part if it has one; an option
pub data CaseOf : Type 0 where
  InVariant : SrcTy → ℕ → Option SrcTy → CaseOf
  NothingOf : CaseOf
  SomeOf : CaseOf

abbrev pub case_at : SrcTy → Option (ℕ × Option SrcTy) → Option CaseOf
case_at t None = None
case_at t (Some (place, part)) = Some (InVariant t place part)

-- the case of the name in a variant
abbrev pub variant_case : List ℕ → SrcTy → Option CaseOf
variant_case word t = case_at t (place_of word (cases_in t))

-- the cases of an option
abbrev pub option_cases : Named CaseOf
option_cases = (codes "None", NothingOf) ∷ (codes "Some", SomeOf) ∷ []

-- the case of the name in a type
abbrev pub case_in : List ℕ → SrcTy → Option CaseOf
case_in word t = if is_some (option_part t) then look word option_cases else variant_case word t

-- the case of the name in the latest declared variant that has it
abbrev pub latest_case_in : List ℕ → List SrcTy → Option CaseOf
latest_case_in word [] = look word option_cases
latest_case_in word (t ∷ ts) = first_of (variant_case word t) (latest_case_in word ts)

abbrev pub latest_case : Known → List ℕ → Option CaseOf
latest_case known word = latest_case_in word known.shapes

-- the case of the expected type, or else of the latest
abbrev pub case_of : Known → Option SrcTy → List ℕ → Option CaseOf
case_of known None word = latest_case known word
case_of known (Some t) word = first_of (case_in word t) (latest_case known word)
