-- `let`, `if` and `match`: how they are typed.
use Rattle.std.specs.List.{insert}
use Rattle.std.specs.Prelude.{List, None, Option, Some, [], false, if◌then◌else◌, length, map, ℕ, ◌++◌, ◌∷◌}
use Rattle.ligo_syntax.specs.declared.expr.Arm.{Arm}
use Rattle.ligo_syntax.specs.declared.expr.Expr.{Expr}
use Rattle.ligo_syntax.specs.declared.pattern.Pattern.{Pattern}
use Rattle.ligo_syntax.specs.declared.type_expr.TypeExpr.{TypeExpr}
use Rattle.ligo_typer.specs.declared.fault.LigoKind.TheVariants as kind
use Rattle.ligo_typer.specs.declared.source_type.SrcTy.{SrcTy}
use Rattle.ligo_typer.specs.declared.source_type.SrcTy.TheVariants as type
use Rattle.ligo_typer.specs.declared.typed_expr.TypedArm.{TypedArm}
use Rattle.ligo_typer.specs.declared.typed_expr.TypedExpr.{TypedExpr}
use Rattle.ligo_typer.specs.declared.typed_expr.TypedForm.TheVariants as form
use Rattle.ligo_typer.specs.Alone.{stands_alone}
use Rattle.ligo_typer.specs.Arms.{ArmCase, arm_case, arm_choice, arm_scope, case_count}
use Rattle.ligo_typer.specs.Coverage.{coverage}
use Rattle.ligo_typer.specs.Meant.{meant, type_faults}
use Rattle.ligo_typer.specs.Patterns.{bound, pattern_faults, typed_pattern}
use Rattle.ligo_typer.specs.Plans.{Asks, Breaks, Gives, Part, Plan, against, alone, ask, ask_two, by_found, expecting, instead, sound, wrong, zip_with}
use Rattle.ligo_typer.specs.Scopes.{Known}

-- a type that is told, where nothing is wrong with it
abbrev pub told : Known → TypeExpr → (SrcTy → Plan) → Plan
told known t next = sound (type_faults known t) (next (meant known t))

-- what may be left out
abbrev pub maybe_told : Known → Option TypeExpr → (Option SrcTy → Plan) → Plan
maybe_told known None next = next None
maybe_told known (Some t) next = told known t (λ u. next (Some u))

module _ (known : Known) (p : Part) where
  abbrev pub let_plan : Pattern → Option TypeExpr → Expr → Expr → Plan
  let_plan q t e f = maybe_told known t (λ u. ask (record { scope = p.scope; tail = false; expr = e; expected = u }) (λ x.
      sound (pattern_faults q x.of) (ask (instead p (bound q x.of) f) (λ y. Gives y.of (form.Let (typed_pattern q) x y)))))

  -- parts before the first that has a type by itself, that one, and those behind it
  abbrev pub Split : Type 0
  Split = List Part × Part × List Part

  abbrev pub behind : Part → Option Split → Option Split
  behind q None = None
  behind q (Some s) = Some (q ∷ s.0, s.1, s.2)

  abbrev pub first_alone : List Part → Option Split
  first_alone [] = None
  first_alone (q ∷ qs) = if stands_alone known q.expr then Some ([], q, qs) else behind q (first_alone qs)

  -- each branch against the first that has a type by itself
  abbrev pub by_first : List Part → (SrcTy → List TypedExpr → Plan) → Option Split → Plan
  by_first branches next None = Asks branches (λ xs. wrong p kind.NeedsType)
  by_first branches next (Some s) = ask s.1 (λ x.
      Asks (map (expecting x.of) (s.0 ++ s.2)) (λ xs. next x.of (insert xs (length s.0) x)))

  abbrev pub by_expected : List Part → (SrcTy → List TypedExpr → Plan) → Option SrcTy → Plan
  by_expected branches next (Some t) = Asks branches (next t)
  by_expected branches next None = by_first branches next (first_alone branches)

  -- branches are of one type
  abbrev pub branched : List Part → (SrcTy → List TypedExpr → Plan) → Plan
  branched branches next = by_expected branches next p.expected

  abbrev pub if_given : TypedExpr → SrcTy → List TypedExpr → Plan
  if_given c t (x ∷ y ∷ []) = Gives t (form.If c x (Some y))
  if_given c t xs = Breaks []

  abbrev pub if_plan : Expr → Expr → Option Expr → Plan
  if_plan c a None = ask_two (against p type.Bool c) (expecting type.Unit (instead p [] a)) (λ x y. Gives type.Unit (form.If x y None))
  if_plan c a (Some b) = ask (against p type.Bool c) (λ x. branched (instead p [] a ∷ instead p [] b ∷ []) (if_given x))

  abbrev pub arm_part : Arm → ArmCase → Part
  arm_part arm c = instead p (arm_scope c) arm.body

  abbrev pub typed_arm : ArmCase → TypedExpr → TypedArm
  typed_arm c x = record { choice = arm_choice c; body = x }

  -- the arms cover each case once
  abbrev pub arms_plan : TypedExpr → List Arm → List ArmCase → ℕ → Plan
  arms_plan x arms cases count = sound (coverage p.expr.at count cases)
      (branched (zip_with arm_part arms cases) (λ t ys. Gives t (form.Match x (zip_with typed_arm cases ys))))

  abbrev pub match_plan : Expr → List Arm → Plan
  match_plan e arms = ask (alone p e) (λ x. by_found p
      (arms_plan x arms (map (λ (a : Arm). arm_case known x.of a.pattern) arms)) (case_count x.of))
