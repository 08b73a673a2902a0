-- Constructors and calls: how they are typed.
use Rattle.std.specs.Prelude.{Bool, List, None, Option, Some, [], false, if◌then◌else◌, length, true, ℕ, ◌==◌, ◌∷◌}
use Rattle.ligo_syntax.specs.declared.expr.Expr.{Expr}
use Rattle.ligo_typer.specs.declared.builtin.Library.{Library}
use Rattle.ligo_typer.specs.declared.fault.LigoKind.TheVariants as kind
use Rattle.ligo_typer.specs.declared.source_type.SrcTy.{SrcTy}
use Rattle.ligo_typer.specs.declared.source_type.SrcTy.TheVariants as type
use Rattle.ligo_typer.specs.declared.typed_expr.TypedExpr.{TypedExpr}
use Rattle.ligo_typer.specs.declared.typed_expr.TypedForm.TheVariants as form
use Rattle.ligo_typer.specs.Builtins.{builtin_on}
use Rattle.ligo_typer.specs.Faults.{fault, faults_at}
use Rattle.ligo_typer.specs.Limits.{type_breaches}
use Rattle.ligo_typer.specs.MapLiterals.{library_on}
use Rattle.ligo_typer.specs.Plans.{Asks, Breaks, Gives, Part, Plan, against, alone, ask, sound, wants, wrong, zip_with}
use Rattle.ligo_typer.specs.Scopes.{Function, Itself, Meaning, Predefined}
use Rattle.ligo_typer.specs.Shapes.{CaseOf, InVariant, NothingOf, SomeOf}
use Rattle.ligo_typer.specs.Views.{option_part}

module _ (p : Part) where
  -- with the part that its case has, or without one
  abbrev pub constructor_plan : ℕ → List Expr → Option CaseOf → Plan
  constructor_plan at es None = Breaks (fault kind.Unknown at ∷ [])
  constructor_plan at [] (Some (InVariant t place None)) = sound (faults_at p.expr.at (type_breaches t)) (Gives t (form.Case place None))
  constructor_plan at (e ∷ []) (Some (InVariant t place (Some u))) = sound (faults_at p.expr.at (type_breaches t))
      (ask (against p u e) (λ x. Gives t (form.Case place (Some x))))
  constructor_plan at [] (Some NothingOf) = wants p option_part (wrong p kind.NeedsType) (λ t. Gives (type.Option t) form.Nothing)
  constructor_plan at (e ∷ []) (Some SomeOf) = wants p option_part (ask (alone p e) (λ x. Gives (type.Option x.of) (form.Some x)))
      (λ t. ask (against p t e) (λ x. Gives (type.Option t) (form.Some x)))
  constructor_plan at es (Some c) = wrong p kind.Mismatch

  -- each argument against its param
  abbrev pub arguments : List SrcTy → List Expr → (List TypedExpr → Plan) → Plan
  arguments ts es next = if length es == length ts then Asks (zip_with (against p) ts es) next else wrong p kind.HigherOrder

  -- a recursive function calls itself in tail position
  abbrev pub again_plan : Bool → List SrcTy → SrcTy → List Expr → Plan
  again_plan true ts t es = arguments ts es (λ xs. Gives t (form.Again xs))
  again_plan false ts t es = wrong p kind.NotTail

  abbrev pub call_plan : ℕ → List Expr → Option Meaning → Plan
  call_plan at es None = Breaks (fault kind.Unknown at ∷ [])
  call_plan at es (Some (Function n ts t)) = arguments ts es (λ xs. Gives t (form.Call n xs))
  call_plan at es (Some (Itself ts t)) = again_plan p.tail ts t es
  call_plan at es (Some (Predefined b)) = builtin_on p b es
  call_plan at es (Some m) = wrong p kind.Mismatch

  abbrev pub library_call : ℕ → List Expr → Option Library → Plan
  library_call at es None = Breaks (fault kind.LeftOut at ∷ [])
  library_call at es (Some l) = library_on p l es
