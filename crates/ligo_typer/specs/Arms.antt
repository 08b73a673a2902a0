-- What an arm of a match covers.
use Rattle.std.specs.Option.{option_map}
use Rattle.std.specs.Prelude.{Bool, None, Option, Some, [], if◌then◌else◌, is_some, length, ℕ, ◌∷◌}
use Rattle.ligo_syntax.specs.declared.expr.ArmForm.{ArmForm}
use Rattle.ligo_syntax.specs.declared.expr.ArmForm.TheVariants as arm
use Rattle.ligo_syntax.specs.declared.expr.ArmPattern.{ArmPattern}
use Rattle.ligo_syntax.specs.declared.name.Name.{Name}
use Rattle.ligo_syntax.specs.declared.pattern.Pattern.{Pattern}
use Rattle.ligo_typer.specs.declared.fault.LigoKind.TheVariants as kind
use Rattle.ligo_typer.specs.declared.source_type.SrcTy.{SrcTy}
use Rattle.ligo_typer.specs.declared.typed_pattern.TypedChoice.{TypedChoice}
use Rattle.ligo_typer.specs.declared.typed_pattern.TypedChoice.TheVariants as choice
use Rattle.ligo_typer.specs.Faults.{Faults, fault, repeated}
use Rattle.ligo_typer.specs.Names.{first_of}
use Rattle.ligo_typer.specs.Patterns.{bound, pattern_faults, typed_pattern}
use Rattle.ligo_typer.specs.Scopes.{Known, Local, Scope}
use Rattle.ligo_typer.specs.Shapes.{CaseOf, InVariant, NothingOf, SomeOf, case_in, latest_case}
use Rattle.ligo_typer.specs.Views.{list_part, option_part, variant_cases}

-- what an arm covers: all that is left; the case of that number, with what it binds, and what is wrong inside it; no case
pub data ArmCase : Type 0 where
  All : ℕ → ArmCase
  One : ℕ → ℕ → TypedChoice → Scope → Faults → ArmCase
  NoCase : Faults → ArmCase

abbrev pub arm_choice : ArmCase → TypedChoice
arm_choice (One at place c bound faults) = c
arm_choice c = choice.Any

abbrev pub arm_scope : ArmCase → Scope
arm_scope (One at place c bound faults) = bound
arm_scope c = []

-- the number of the cases of a type that has cases: of an option and a list two
abbrev pub case_count : SrcTy → Option ℕ
case_count t = first_of (option_map (λ u. 2) (option_part t)) (first_of (option_map (λ u. 2) (list_part t)) (option_map length (variant_cases t)))

-- an arm that is of another type
abbrev pub no_case : ℕ → ArmCase
no_case at = NoCase (fault kind.Mismatch at ∷ [])

-- `[]` and `::` are the cases of a list
abbrev pub nil_case : ℕ → Option SrcTy → ArmCase
nil_case at None = no_case at
nil_case at (Some t) = One at 0 choice.Nil [] []

abbrev pub cons_case : ℕ → SrcTy → Name → Name → Option SrcTy → ArmCase
cons_case at list h t None = no_case at
cons_case at list h t (Some item) = One at 1 (choice.Cons h.word t.word)
    ((h.word, Local item) ∷ (t.word, Local list) ∷ []) (repeated ((h.word, h.at) ∷ (t.word, t.at) ∷ []))

-- the part of a case, by its type: each has one or none
abbrev pub part_case : ℕ → ℕ → (Option Pattern → TypedChoice) → Option SrcTy → Option Pattern → ArmCase
part_case at place make None None = One at place (make None) [] []
part_case at place make (Some t) (Some p) = One at place (make (Some p)) (bound p t) (pattern_faults p t)
part_case at place make t p = One at place choice.Any [] (fault kind.Mismatch at ∷ [])

-- `Some` with its part
abbrev pub some_choice : Option Pattern → TypedChoice
some_choice None = choice.Nothing
some_choice (Some p) = choice.Some (typed_pattern p)

abbrev pub constructor_case : ℕ → SrcTy → Option Pattern → Bool → Option CaseOf → ArmCase
constructor_case at t p known None = NoCase (fault (if known then kind.Mismatch else kind.Unknown) at ∷ [])
constructor_case at t p known (Some NothingOf) = part_case at 0 some_choice None p
constructor_case at t p known (Some SomeOf) = part_case at 1 some_choice (option_part t) p
constructor_case at t p known (Some (InVariant of place part)) = part_case at place (λ q. choice.Case place (option_map typed_pattern q)) part p

abbrev pub form_case : Known → ℕ → SrcTy → ArmForm → ArmCase
form_case known at t arm.Any = All at
form_case known at t arm.Nil = nil_case at (list_part t)
form_case known at t (arm.Cons h rest) = cons_case at t h rest (list_part t)
form_case known at t (arm.Constructor word p) = constructor_case at t p (is_some (latest_case known word)) (case_in word t)

-- what an arm covers of a type
abbrev pub arm_case : Known → SrcTy → ArmPattern → ArmCase
arm_case known t p = form_case known p.at t p.form
