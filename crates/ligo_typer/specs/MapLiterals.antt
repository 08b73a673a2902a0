-- Maps that are written out, and calls of libraries: how they are typed.
use Rattle.std.specs.Prelude.{List, Option, [], if◌then◌else◌, length, ◌==◌, ◌∷◌}
use Rattle.ligo_syntax.specs.declared.expr.Expr.{Expr}
use Rattle.ligo_typer.specs.declared.builtin.Library.{Library}
use Rattle.ligo_typer.specs.declared.builtin.Library.TheVariants as library
use Rattle.ligo_typer.specs.declared.fault.LigoKind.TheVariants as kind
use Rattle.ligo_typer.specs.declared.source_type.SrcTy.{SrcTy}
use Rattle.ligo_typer.specs.declared.source_type.SrcTy.TheVariants as type
use Rattle.ligo_typer.specs.declared.typed_expr.TypedEntry.{TypedEntry}
use Rattle.ligo_typer.specs.declared.typed_expr.TypedExpr.{TypedExpr}
use Rattle.ligo_typer.specs.declared.typed_expr.TypedForm.TheVariants as form
use Rattle.ligo_typer.specs.Builtins.{builtin_on, map_plan}
use Rattle.ligo_typer.specs.Libraries.{arity}
use Rattle.ligo_typer.specs.Plans.{Asks, Gives, Part, Plan, against, alone, ask_two, by_found, wants, wrong}
use Rattle.ligo_typer.specs.Views.{big_map_parts, map_parts}
use Rattle.ligo_typer.specs.WrittenPairs.{written_pairs}

module _ (p : Part) where
  -- each key and each value against a type
  abbrev pub pairs_against : SrcTy → SrcTy → List (Expr × Expr) → List Part
  pairs_against t u [] = []
  pairs_against t u (e ∷ es) = against p t e.0 ∷ against p u e.1 ∷ pairs_against t u es

  abbrev pub typed_entries : List TypedExpr → List TypedEntry
  typed_entries (x ∷ y ∷ more) = record { key = x; value = y } ∷ typed_entries more
  typed_entries more = []

  -- pairs after the first are typed against it
  abbrev pub pairs_alone : List (Expr × Expr) → Plan
  pairs_alone [] = wrong p kind.NeedsType
  pairs_alone (e ∷ es) = ask_two (alone p e.0) (alone p e.1) (λ x y. Asks (pairs_against x.of y.of es)
      (λ xs. Gives (type.Map x.of y.of) (form.MapLiteral (typed_entries (x ∷ y ∷ xs)))))

  abbrev pub pairs_plan : List (Expr × Expr) → Plan
  pairs_plan es = wants p map_parts (pairs_alone es) (λ kv. Asks (pairs_against kv.0 kv.1 es)
      (λ xs. Gives (type.Map kv.0 kv.1) (form.MapLiteral (typed_entries xs))))

  -- a list of pairs, all written out
  abbrev pub literal_map_plan : Option (List (Expr × Expr)) → Plan
  literal_map_plan pairs = by_found p pairs_plan pairs

  -- on a map, a big map, or none
  abbrev pub library_on : Library → List Expr → Plan
  library_on library.EmptyMap es = wrong p kind.Mismatch
  library_on library.MapLiteral (e ∷ []) = literal_map_plan (written_pairs e)
  library_on library.MapLiteral es = wrong p kind.HigherOrder
  library_on (library.OnMap b) es = if length es == arity b then map_plan p map_parts b es else wrong p kind.HigherOrder
  library_on (library.OnBigMap b) es = if length es == arity b then map_plan p big_map_parts b es else wrong p kind.HigherOrder
  library_on (library.Call b) es = builtin_on p b es
