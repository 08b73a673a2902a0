-- Declarations of types: what is wrong with one, and what is known behind it.
use Rattle.std.specs.Option.{option_map}
use Rattle.std.specs.Prelude.{List, None, Option, Some, [], if◌then◌else◌, map, ℕ, ◌++◌, ◌∷◌}
use Rattle.ligo_syntax.specs.declared.program.Definition.{Definition}
use Rattle.ligo_syntax.specs.declared.program.Definition.TheVariants as definition
use Rattle.ligo_syntax.specs.declared.program.TypeCase.{TypeCase}
use Rattle.ligo_syntax.specs.declared.program.TypeDecl.{TypeDecl}
use Rattle.ligo_syntax.specs.declared.program.TypeField.{TypeField}
use Rattle.ligo_typer.specs.declared.fault.LigoKind.TheVariants as kind
use Rattle.ligo_typer.specs.declared.source_type.SrcTy.{SrcTy}
use Rattle.ligo_typer.specs.declared.source_type.SrcTy.TheVariants as type
use Rattle.ligo_typer.specs.Faults.{Faults, faults_at, of_each, repeated}
use Rattle.ligo_typer.specs.Meant.{meant, unknown_types}
use Rattle.ligo_typer.specs.Scopes.{Known, is_declared}

-- what may be left out
abbrev pub if_told : {A : Type 0} → (A → Faults) → Option A → Faults
if_told f None = []
if_told f (Some a) = f a

-- a name that is declared above
abbrev pub declared_above : Known → List ℕ → ℕ → Faults
declared_above known word at = faults_at at (if is_declared known word then kind.Twice ∷ [] else [])

-- what is wrong with what a type is declared as
abbrev pub definition_faults : Known → Definition → Faults
definition_faults known (definition.Type t) = unknown_types known t
definition_faults known (definition.Record at fields) =
    repeated (map (λ (f : TypeField). (f.name.word, f.name.at)) fields) ++ of_each (λ (f : TypeField). unknown_types known f.of) fields
definition_faults known (definition.Variant at cases) =
    repeated (map (λ (c : TypeCase). (c.name.word, c.name.at)) cases) ++ of_each (λ (c : TypeCase). if_told (unknown_types known) c.part) cases

abbrev pub type_decl_faults : Known → TypeDecl → Faults
type_decl_faults known d = declared_above known d.name.word d.name.at ++ definition_faults known d.definition

-- what a name is declared as
abbrev pub defined : Known → Definition → SrcTy
defined known (definition.Type t) = meant known t
defined known (definition.Record at fields) = type.Record (map (λ (f : TypeField). (f.name.word, meant known f.of)) fields)
defined known (definition.Variant at cases) = type.Variant (map (λ (c : TypeCase). (c.name.word, option_map (meant known) c.part)) cases)

-- another name of a type declares no fields and no cases
abbrev pub shape : Known → Definition → List SrcTy
shape known (definition.Type t) = []
shape known d = defined known d ∷ []

-- what is known behind the declaration of a type
abbrev pub with_type : Known → TypeDecl → Known
with_type known d = record {
  types = (d.name.word, defined known d.definition) ∷ known.types;
  shapes = shape known d.definition ++ known.shapes;
  values = known.values;
}
