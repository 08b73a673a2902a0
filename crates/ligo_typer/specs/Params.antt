-- Params of functions: their types, what they bind, and what is wrong with them.
use Rattle.std.specs.Prelude.{List, [], map, ℕ, ◌++◌, ◌∷◌}
use Rattle.ligo_syntax.specs.declared.program.Param.{Param}
use Rattle.ligo_syntax.specs.declared.program.ParamForm.{ParamForm}
use Rattle.ligo_syntax.specs.declared.program.ParamForm.TheVariants as param
use Rattle.ligo_syntax.specs.declared.program.ValueDecl.{ValueDecl}
use Rattle.ligo_typer.specs.declared.source_type.SrcTy.{SrcTy}
use Rattle.ligo_typer.specs.declared.source_type.SrcTy.TheVariants as type
use Rattle.ligo_typer.specs.declared.typed_pattern.TypedPattern.{TypedPattern}
use Rattle.ligo_typer.specs.declared.typed_pattern.TypedPattern.TheVariants as pattern
use Rattle.ligo_typer.specs.declared.typed_program.TypedParam.{TypedParam}
use Rattle.ligo_typer.specs.Faults.{Faults, or_else}
use Rattle.ligo_typer.specs.Meant.{meant, type_faults}
use Rattle.ligo_typer.specs.Names.{Named}
use Rattle.ligo_typer.specs.Patterns.{bound, misfits, names_in, typed_pattern}
use Rattle.ligo_typer.specs.Scopes.{Known, Scope}

abbrev pub param_type : Known → ParamForm → SrcTy
param_type known param.Unit = type.Unit
param_type known (param.Typed p t) = meant known t

-- the type of a param
abbrev pub type_of_param : Known → Param → SrcTy
type_of_param known p = param_type known p.form

abbrev pub param_types : Known → ValueDecl → List SrcTy
param_types known d = map (type_of_param known) d.params

abbrev pub form_faults : Known → ParamForm → Faults
form_faults known param.Unit = []
form_faults known (param.Typed p t) = or_else (type_faults known t) (misfits p (meant known t))

abbrev pub param_names : ParamForm → Named ℕ
param_names param.Unit = []
param_names (param.Typed p t) = names_in p

abbrev pub form_bound : Known → ParamForm → Scope
form_bound known param.Unit = []
form_bound known (param.Typed p t) = bound p (meant known t)

-- what the params bind
abbrev pub params_bound : Known → List Param → Scope
params_bound known [] = []
params_bound known (p ∷ ps) = form_bound known p.form ++ params_bound known ps

abbrev pub form_pattern : ParamForm → TypedPattern
form_pattern param.Unit = pattern.Any
form_pattern (param.Typed p t) = typed_pattern p

abbrev pub typed_param : Known → Param → TypedParam
typed_param known p = record { pattern = form_pattern p.form; of = type_of_param known p }
