-- Patterns against types: what they bind, and what is wrong with them.
use Rattle.std.specs.Prelude.{List, None, Option, Some, [], if◌then◌else◌, length, ℕ, ◌++◌, ◌==◌, ◌∷◌}
use Rattle.ligo_syntax.specs.declared.pattern.Pattern.{Pattern}
use Rattle.ligo_syntax.specs.declared.pattern.PatternForm.TheFolds.{fold-Pattern}
use Rattle.ligo_syntax.specs.declared.pattern.PatternForm.TheOpen as form
use Rattle.ligo_syntax.specs.declared.pattern.PatternForm.TheOpen.{PatternForm-F}
use Rattle.ligo_typer.specs.declared.fault.LigoKind.TheVariants as kind
use Rattle.ligo_typer.specs.declared.source_type.SrcTy.{SrcTy}
use Rattle.ligo_typer.specs.declared.typed_pattern.TypedPattern.{TypedPattern}
use Rattle.ligo_typer.specs.declared.typed_pattern.TypedPattern.TheVariants as pattern
use Rattle.ligo_typer.specs.Faults.{Faults, fault, repeated}
use Rattle.ligo_typer.specs.Names.{Named}
use Rattle.ligo_typer.specs.Scopes.{Local, Scope}
use Rattle.ligo_typer.specs.Views.{tuple_parts}

-- what each makes of its own type, one after another
abbrev pub each_of : {A : Type 0} → List (SrcTy → List A) → List SrcTy → List A
each_of (f ∷ fs) (t ∷ ts) = f t ++ each_of fs ts
each_of fs ts = []

-- ---- names

abbrev pub all_names : List (Named ℕ) → Named ℕ
all_names [] = []
all_names (names ∷ more) = names ++ all_names more

abbrev pub names_level : PatternForm-F (ℕ → Named ℕ) (Named ℕ) → ℕ → Named ℕ
names_level (form.Name word) at = (word, at) ∷ []
names_level form.Any at = []
names_level (form.Brackets p) at = p
names_level (form.Tuple ps) at = all_names ps

-- the names of a pattern with their places
abbrev pub names_in : Pattern → Named ℕ
names_in = fold-Pattern (ℕ → Named ℕ) (Named ℕ) names_level (λ p. p.form p.at)

-- ---- against a type

abbrev pub bound_parts : List (SrcTy → Scope) → Option (List SrcTy) → Scope
bound_parts ps None = []
bound_parts ps (Some ts) = each_of ps ts

abbrev pub bound_level : PatternForm-F (SrcTy → Scope) (SrcTy → Scope) → SrcTy → Scope
bound_level (form.Name word) t = (word, Local t) ∷ []
bound_level form.Any t = []
bound_level (form.Brackets p) t = p t
bound_level (form.Tuple ps) t = bound_parts ps (tuple_parts t)

-- what a pattern binds
abbrev pub bound : Pattern → SrcTy → Scope
bound = fold-Pattern (SrcTy → Scope) (SrcTy → Scope) bound_level (λ p. p.form)

abbrev pub misfit_parts : ℕ → List (SrcTy → Faults) → Option (List SrcTy) → Faults
misfit_parts at ps None = fault kind.Mismatch at ∷ []
misfit_parts at ps (Some ts) = if length ps == length ts then each_of ps ts else fault kind.Mismatch at ∷ []

abbrev pub misfit_level : PatternForm-F (ℕ → SrcTy → Faults) (SrcTy → Faults) → ℕ → SrcTy → Faults
misfit_level (form.Name word) at t = []
misfit_level form.Any at t = []
misfit_level (form.Brackets p) at t = p t
misfit_level (form.Tuple ps) at t = misfit_parts at ps (tuple_parts t)

-- tuples in it that meet no tuple of as many parts
abbrev pub misfits : Pattern → SrcTy → Faults
misfits = fold-Pattern (ℕ → SrcTy → Faults) (SrcTy → Faults) misfit_level (λ p. p.form p.at)

-- what is wrong with a pattern against a type
abbrev pub pattern_faults : Pattern → SrcTy → Faults
pattern_faults p t = repeated (names_in p) ++ misfits p t

-- ---- without brackets

abbrev pub pattern_level : PatternForm-F TypedPattern TypedPattern → TypedPattern
pattern_level (form.Name word) = pattern.Name word
pattern_level form.Any = pattern.Any
pattern_level (form.Brackets p) = p
pattern_level (form.Tuple ps) = pattern.Tuple ps

abbrev pub typed_pattern : Pattern → TypedPattern
typed_pattern = fold-Pattern TypedPattern TypedPattern pattern_level (λ p. p.form)
