-- Tuples and lists: how they are typed.
use Rattle.std.specs.Option.{option_map}
use Rattle.std.specs.Prelude.{List, None, Option, [], if◌then◌else◌, length, map, negsuc, pos, slice_get, ℕ, ℤ, ◌==◌, ◌∷◌}
use Rattle.ligo_syntax.specs.declared.expr.Expr.{Expr}
use Rattle.ligo_syntax.specs.declared.expr.Operator.TheVariants as operator
use Rattle.ligo_typer.specs.declared.fault.LigoKind.TheVariants as kind
use Rattle.ligo_typer.specs.declared.source_type.SrcTy.{SrcTy}
use Rattle.ligo_typer.specs.declared.source_type.SrcTy.TheVariants as type
use Rattle.ligo_typer.specs.declared.typed_expr.TypedExpr.{TypedExpr}
use Rattle.ligo_typer.specs.declared.typed_expr.TypedForm.TheVariants as form
use Rattle.ligo_typer.specs.Faults.{faults_at}
use Rattle.ligo_typer.specs.Limits.{type_breaches}
use Rattle.ligo_typer.specs.Plans.{Asks, Gives, Part, Plan, against, alone, ask, ask_two, by_found, sound, types_of, wants, wrong, zip_with}
use Rattle.ligo_typer.specs.Views.{list_part, tuple_parts}

module _ (p : Part) where
  abbrev pub tuple_given : List TypedExpr → Plan
  tuple_given xs = Gives (type.Tuple (types_of xs)) (form.Tuple xs)

  abbrev pub tuple_against : List Expr → List SrcTy → Plan
  tuple_against es ts = if length es == length ts then Asks (zip_with (against p) ts es) tuple_given else wrong p kind.Mismatch

  abbrev pub tuple_plan : List Expr → Plan
  tuple_plan es = wants p tuple_parts (Asks (map (alone p) es) tuple_given) (tuple_against es)

  -- items after the first are typed against it
  abbrev pub list_alone : List Expr → Plan
  list_alone [] = wrong p kind.NeedsType
  list_alone (e ∷ es) = ask (alone p e) (λ x. Asks (map (against p x.of) es) (λ xs. Gives (type.List x.of) (form.List (x ∷ xs))))

  abbrev pub list_plan : List Expr → Plan
  list_plan es = wants p list_part (list_alone es) (λ t. Asks (map (against p t) es) (λ xs. Gives (type.List t) (form.List xs)))

  -- a list of items of a type must be allowed, before another is typed against it
  abbrev pub cons_alone : Expr → Expr → Plan
  cons_alone a b = ask (alone p a) (λ x. sound (faults_at p.expr.at (type_breaches (type.List x.of)))
      (ask (against p (type.List x.of) b) (λ y. Gives (type.List x.of) (form.Binary operator.Cons x y))))

  abbrev pub cons_plan : Expr → Expr → Plan
  cons_plan a b = wants p list_part (cons_alone a b)
      (λ t. ask_two (against p t a) (against p (type.List t) b) (λ x y. Gives (type.List t) (form.Binary operator.Cons x y)))

  -- the part of a tuple at a place
  abbrev pub part_at : ℤ → List SrcTy → Option (ℕ × SrcTy)
  part_at (pos n) ts = option_map (λ t. (n, t)) (slice_get ts n)
  part_at (negsuc n) ts = None

  abbrev pub part_plan : Expr → ℤ → Plan
  part_plan e n = ask (alone p e) (λ x. by_found p (λ ts. by_found p (λ q. Gives q.1 (form.Part x q.0)) (part_at n ts)) (tuple_parts x.of))
