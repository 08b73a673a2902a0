-- From the tests of a script as a whole to its first fault, and from those of an instruction's types to what it writes.
use Rattle.std.proofs.Common.{◌≡◌, ◌<◌, true, List, [], ◌∷◌, refl, arith}
use Rattle.std.specs.Prelude.{None}
use Rattle.std.specs.List.{list_all}
use Rattle.std.proofs.lemmas.Bool.{and_from, and_parts}
use Rattle.value_core.specs.declared.ty.Ty.{Ty}
use Rattle.michelson_code.specs.declared.script.Script.{Script}
use Rattle.michelson_code.specs.declared.type_fault.TypeKind.{TypeKind}
use Rattle.michelson_code.specs.declared.type_fault.TypeKind.TheVariants as kind
use Rattle.michelson_code.specs.FirstFault.{IsFirst, WholeBreaks, kind_number}
use Rattle.michelson_code.specs.WrittenTypes.{has_comparable_keys, has_passable_values, is_well_made}
use Rattle.michelson_typer.specs.FirstKinds.{IsKindOfParts}

-- ---- the limits, where no kind before them holds

module _ (s : Script) (parts : IsKindOfParts s None) where
  pub large_is_first : WholeBreaks s kind.TypeTooLarge → IsFirst (WholeBreaks s) kind.TypeTooLarge
  large_is_first large = record { holds = large; none_before = parts }

  before_code : (WholeBreaks s kind.TypeTooLarge → ⊥) → (k : TypeKind) → kind_number k < kind_number kind.CodeTooLarge → WholeBreaks s k → ⊥
  before_code light kind.TypeTooLarge below breaks = light breaks
  before_code light kind.StackTooShort below breaks = breaks
  before_code light kind.WrongType below breaks = parts kind.WrongType (omega arith) breaks
  before_code light kind.BranchesDiffer below breaks = breaks
  before_code light kind.NotComparable below breaks = parts kind.NotComparable (omega arith) breaks
  before_code light kind.BigMapPlace below breaks = parts kind.BigMapPlace (omega arith) breaks
  before_code light kind.EntryTwice below breaks = parts kind.EntryTwice (omega arith) breaks
  before_code light kind.FailNotLast below breaks = breaks
  before_code light kind.StackTooTall below breaks = breaks
  before_code light kind.CodeTooLarge below breaks = absurd (omega arith)
  before_code light kind.LastStack below breaks = breaks

  pub code_is_first : (WholeBreaks s kind.TypeTooLarge → ⊥) → WholeBreaks s kind.CodeTooLarge → IsFirst (WholeBreaks s) kind.CodeTooLarge
  code_is_first light large = record { holds = large; none_before = before_code light }

  -- no fault belongs to the whole
  pub whole_is_sound : (WholeBreaks s kind.TypeTooLarge → ⊥) → (WholeBreaks s kind.CodeTooLarge → ⊥) → (k : TypeKind) → WholeBreaks s k → ⊥
  whole_is_sound light small kind.CodeTooLarge breaks = small breaks
  whole_is_sound light small kind.LastStack breaks = breaks
  whole_is_sound light small kind.StackTooShort breaks = breaks
  whole_is_sound light small kind.WrongType breaks = parts kind.WrongType (omega arith) breaks
  whole_is_sound light small kind.BranchesDiffer breaks = breaks
  whole_is_sound light small kind.NotComparable breaks = parts kind.NotComparable (omega arith) breaks
  whole_is_sound light small kind.BigMapPlace breaks = parts kind.BigMapPlace (omega arith) breaks
  whole_is_sound light small kind.EntryTwice breaks = parts kind.EntryTwice (omega arith) breaks
  whole_is_sound light small kind.FailNotLast breaks = breaks
  whole_is_sound light small kind.StackTooTall breaks = breaks
  whole_is_sound light small kind.TypeTooLarge breaks = light breaks

-- ---- types that an instruction writes

-- types are well made where their keys are comparable and the values of their big maps passable
pub well_made : (ts : List Ty) → list_all has_comparable_keys ts ≡ true → list_all has_passable_values ts ≡ true → list_all is_well_made ts ≡ true
well_made [] keys values = refl
well_made (t ∷ ts) keys values =
    let k = and_parts (has_comparable_keys t) (list_all has_comparable_keys ts) keys in
    let v = and_parts (has_passable_values t) (list_all has_passable_values ts) values in
    and_from _ _ (and_from _ _ k.0 v.0) (well_made ts k.1 v.1)

-- and of types that are not well made one of both fails
pub well_made-back : (ts : List Ty) → list_all is_well_made ts ≡ true → (list_all has_comparable_keys ts ≡ true) × (list_all has_passable_values ts ≡ true)
well_made-back [] made = (refl, refl)
well_made-back (t ∷ ts) made =
    let both = and_parts (is_well_made t) (list_all is_well_made ts) made in
    let here = and_parts (has_comparable_keys t) (has_passable_values t) both.0 in
    let rest = well_made-back ts both.1 in
    (and_from _ _ here.0 rest.0, and_from _ _ here.1 rest.1)
