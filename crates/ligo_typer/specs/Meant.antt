-- Types as they are written: what they mean, and what is wrong with them.
use Rattle.std.specs.Prelude.{None, Option, Some, [], ℕ, ◌++◌, ◌∷◌}
use Rattle.ligo_syntax.specs.declared.type_expr.TypeExpr.{TypeExpr}
use Rattle.ligo_syntax.specs.declared.type_expr.TypeForm.TheFolds.{fold-TypeExpr}
use Rattle.ligo_syntax.specs.declared.type_expr.TypeForm.TheOpen as form
use Rattle.ligo_syntax.specs.declared.type_expr.TypeForm.TheOpen.{TypeForm-F}
use Rattle.ligo_typer.specs.declared.fault.LigoKind.TheVariants as kind
use Rattle.ligo_typer.specs.declared.source_type.SrcTy.{SrcTy}
use Rattle.ligo_typer.specs.declared.source_type.SrcTy.TheVariants as type
use Rattle.ligo_typer.specs.Faults.{Faults, all_of, fault, faults_at, or_else}
use Rattle.ligo_typer.specs.Limits.{type_breaches}
use Rattle.ligo_typer.specs.Scopes.{Known, type_named}

-- what a name means; one that nothing declares is a fault, and counts as unit here
abbrev pub named_type : Option SrcTy → SrcTy
named_type None = type.Unit
named_type (Some t) = t

-- one level of a written type, by what its parts mean
abbrev pub meant_level : Known → TypeForm-F SrcTy SrcTy → SrcTy
meant_level known (form.Name word) = named_type (type_named known word)
meant_level known (form.Brackets t) = t
meant_level known (form.Map k v) = type.Map k v
meant_level known (form.BigMap k v) = type.BigMap k v
meant_level known (form.List t) = type.List t
meant_level known (form.Option t) = type.Option t
meant_level known (form.Contract t) = type.Contract t
meant_level known (form.Tuple ts) = type.Tuple ts

abbrev pub meant : Known → TypeExpr → SrcTy
meant known = fold-TypeExpr SrcTy SrcTy (meant_level known) (λ e. e.form)

-- a name that nothing declares
abbrev pub unknown_name : ℕ → Option SrcTy → Faults
unknown_name at None = fault kind.Unknown at ∷ []
unknown_name at (Some t) = []

-- one level of a written type at a place, by the faults of its parts
abbrev pub unknown_level : Known → TypeForm-F (ℕ → Faults) Faults → ℕ → Faults
unknown_level known (form.Name word) at = unknown_name at (type_named known word)
unknown_level known (form.Brackets t) at = t
unknown_level known (form.Map k v) at = k ++ v
unknown_level known (form.BigMap k v) at = k ++ v
unknown_level known (form.List t) at = t
unknown_level known (form.Option t) at = t
unknown_level known (form.Contract t) at = t
unknown_level known (form.Tuple ts) at = all_of ts

-- the names in it that nothing declares
abbrev pub unknown_types : Known → TypeExpr → Faults
unknown_types known = fold-TypeExpr (ℕ → Faults) Faults (unknown_level known) (λ e. e.form e.at)

-- what is wrong with the type of an expression or a pattern
abbrev pub type_faults : Known → TypeExpr → Faults
type_faults known t = or_else (unknown_types known t) (faults_at t.at (type_breaches (meant known t)))
