-- Typing: which expression is which typed expression, and which rules an expression breaks that isn't typed.
use Rattle.std.specs.Prelude.{List, None, Option, Some, [], ◌∷◌, ◌≡◌}
use Rattle.ligo_typer.specs.declared.fault.LigoFault.{LigoFault}
use Rattle.ligo_typer.specs.declared.fault.LigoKind.{LigoKind}
use Rattle.ligo_typer.specs.declared.fault.LigoKind.TheVariants as kind
use Rattle.ligo_typer.specs.declared.source_type.SrcTy.{SrcTy}
use Rattle.ligo_typer.specs.declared.typed_expr.TypedExpr.{TypedExpr}
use Rattle.ligo_typer.specs.declared.typed_expr.TypedForm.{TypedForm}
use Rattle.ligo_typer.specs.Faults.{IsOneOf, fault}
use Rattle.ligo_typer.specs.Forms.{plan_of}
use Rattle.ligo_typer.specs.Limits.{type_breaches}
use Rattle.ligo_typer.specs.Plans.{Asks, Breaks, Gives, Part, Plan}
use Rattle.ligo_typer.specs.Scopes.{Known}

-- a type that is expected, or any where none is
abbrev pub Expects : Option SrcTy → SrcTy → Type 0
Expects None t = Unit {0}
Expects (Some u) t = u ≡ t

-- an expression of the type
abbrev pub typed : SrcTy → TypedForm → TypedExpr
typed t form = record { of = t; form = form }

mutual
  -- what a plan of the part comes to: an expression of the type that is expected, which breaks no rule
  pub data Follows (known : Known) : Part → Plan → TypedExpr → Type 0 where
    gives : (p : Part) (t : SrcTy) (form : TypedForm) → type_breaches t ≡ [] → Expects p.expected t →
        Follows known p (Gives t form) (typed t form)
    asks : (p : Part) (parts : List Part) (next : List TypedExpr → Plan) (xs : List TypedExpr) (x : TypedExpr) →
        AreTyped known parts xs → Follows known p (next xs) x → Follows known p (Asks parts next) x

  -- each part is typed
  pub data AreTyped (known : Known) : List Part → List TypedExpr → Type 0 where
    none : AreTyped known [] []
    one_more : (p : Part) (ps : List Part) (x : TypedExpr) (xs : List TypedExpr) →
        Follows known p (plan_of known p) x → AreTyped known ps xs → AreTyped known (p ∷ ps) (x ∷ xs)

-- the part is typed so
abbrev pub IsTyped : Known → Part → TypedExpr → Type 0
IsTyped known p x = Follows known p (plan_of known p) x

mutual
  -- a rule that is broken where the plan of a part doesn't come to an expression
  pub data IsBroken (known : Known) : Part → Plan → LigoFault → Type 0 where
    -- a rule of its form
    breaks : (p : Part) (fs : List LigoFault) (f : LigoFault) → IsOneOf fs f → IsBroken known p (Breaks fs) f
    -- a rule on its type
    unfit : (p : Part) (t : SrcTy) (form : TypedForm) (k : LigoKind) → IsOneOf (type_breaches t) k →
        IsBroken known p (Gives t form) (fault k p.expr.at)
    -- another type is expected
    differs : (p : Part) (t : SrcTy) (form : TypedForm) → (Expects p.expected t → ⊥) →
        IsBroken known p (Gives t form) (fault kind.Mismatch p.expr.at)
    -- inside a part
    inside : (p : Part) (parts : List Part) (next : List TypedExpr → Plan) (f : LigoFault) →
        IsOneBroken known parts f → IsBroken known p (Asks parts next) f
    -- behind parts that are typed
    behind : (p : Part) (parts : List Part) (next : List TypedExpr → Plan) (xs : List TypedExpr) (f : LigoFault) →
        AreTyped known parts xs → IsBroken known p (next xs) f → IsBroken known p (Asks parts next) f

  -- one of the parts breaks the rule, whatever the others do
  pub data IsOneBroken (known : Known) : List Part → LigoFault → Type 0 where
    this : (p : Part) (ps : List Part) (f : LigoFault) → IsBroken known p (plan_of known p) f → IsOneBroken known (p ∷ ps) f
    later : (p : Part) (ps : List Part) (f : LigoFault) → IsOneBroken known ps f → IsOneBroken known (p ∷ ps) f

-- the part breaks a rule
abbrev pub IsFaulty : Known → Part → LigoFault → Type 0
IsFaulty known p f = IsBroken known p (plan_of known p) f
