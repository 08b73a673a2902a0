-- Declarations of values: what is wrong before the body, its place, and what is known behind.
use Rattle.std.specs.Option.{option_map}
use Rattle.std.specs.Prelude.{List, None, Option, Some, [], if◌then◌else◌, map, true, ℕ, ◌++◌, ◌∷◌}
use Rattle.ligo_syntax.specs.declared.program.Param.{Param}
use Rattle.ligo_syntax.specs.declared.program.ValueDecl.{ValueDecl}
use Rattle.ligo_syntax.specs.declared.type_expr.TypeExpr.{TypeExpr}
use Rattle.ligo_typer.specs.declared.fault.LigoKind.TheVariants as kind
use Rattle.ligo_typer.specs.declared.source_type.SrcTy.{SrcTy}
use Rattle.ligo_typer.specs.declared.source_type.SrcTy.TheVariants as type
use Rattle.ligo_typer.specs.declared.typed_expr.TypedExpr.{TypedExpr}
use Rattle.ligo_typer.specs.declared.typed_program.TypedDecl.{TypedDecl}
use Rattle.ligo_typer.specs.Entries.{is_entry}
use Rattle.ligo_typer.specs.Faults.{Faults, fault, faults_at, of_each, or_else, repeated}
use Rattle.ligo_typer.specs.Image.{ty_image}
use Rattle.ligo_typer.specs.Limits.{is_narrow, unless}
use Rattle.ligo_typer.specs.Meant.{meant, type_faults}
use Rattle.ligo_typer.specs.Params.{form_faults, param_names, param_types, params_bound, typed_param}
use Rattle.ligo_typer.specs.Patterns.{all_names}
use Rattle.ligo_typer.specs.Plans.{Part}
use Rattle.ligo_typer.specs.Scopes.{Constant, Function, Itself, Known, Meaning, Scope}
use Rattle.ligo_typer.specs.TypeDecls.{declared_above, if_told}

-- two params and more make a tuple
abbrev pub tuple_faults : ℕ → List SrcTy → Faults
tuple_faults at (t ∷ u ∷ ts) = faults_at at (unless (is_narrow (ty_image (type.Tuple (t ∷ u ∷ ts)))) kind.TooWide)
tuple_faults at ts = []

-- a recursive value has params, and a function tells its result
abbrev pub kind_faults : ValueDecl → List Param → Option TypeExpr → Faults
kind_faults d [] t = if d.recursive then fault kind.Mismatch d.at ∷ [] else []
kind_faults d ps None = fault kind.Mismatch d.at ∷ []
kind_faults d ps (Some t) = []

-- what is wrong before the body is looked at
abbrev pub head_faults : Known → ValueDecl → Faults
head_faults known d = or_else
    (declared_above known d.name.word d.name.at
    ++ (kind_faults d d.params d.result
    ++ (of_each (λ (p : Param). form_faults known p.form) d.params
    ++ (repeated (all_names (map (λ (p : Param). param_names p.form) d.params))
    ++ if_told (type_faults known) d.result))))
    (tuple_faults d.at (param_types known d))

-- the function itself, where it may call itself
abbrev pub itself : Known → ValueDecl → Option TypeExpr → Scope
itself known d None = []
itself known d (Some t) = if d.recursive then (d.name.word, Itself (param_types known d) (meant known t)) ∷ [] else []

-- the body at its place: params before the function before all that is declared
abbrev pub body_of : Known → ValueDecl → Part
body_of known d = record {
  scope = params_bound known d.params ++ (itself known d d.result ++ known.values);
  tail = true;
  expr = d.body;
  expected = option_map (meant known) d.result;
}

-- what the name stands for, by the number of the declaration
abbrev pub meaning_by : ℕ → List SrcTy → SrcTy → Meaning
meaning_by n [] t = Constant n t
meaning_by n ts t = Function n ts t

-- what is known behind the declaration of a value
abbrev pub with_value : Known → ℕ → ValueDecl → SrcTy → Known
with_value known n d t = record {
  types = known.types;
  shapes = known.shapes;
  values = (d.name.word, meaning_by n (param_types known d) t) ∷ known.values;
}

-- the declaration as it is typed
abbrev pub typed_decl : Known → ValueDecl → TypedExpr → TypedDecl
typed_decl known d x = record {
  name = d.name.word;
  entry = is_entry d;
  recursive = d.recursive;
  params = map (typed_param known) d.params;
  body = x;
}
