-- What an expression asks of its parts, and what it gives where they are typed.
use Rattle.std.specs.Option.{option_map}
use Rattle.std.specs.Prelude.{Bool, List, None, Option, Some, [], false, map, ◌++◌, ◌∷◌}
use Rattle.ligo_syntax.specs.declared.expr.Expr.{Expr}
use Rattle.ligo_typer.specs.declared.fault.LigoKind.{LigoKind}
use Rattle.ligo_typer.specs.declared.fault.LigoKind.TheVariants as kind
use Rattle.ligo_typer.specs.declared.source_type.SrcTy.{SrcTy}
use Rattle.ligo_typer.specs.declared.typed_expr.TypedExpr.{TypedExpr}
use Rattle.ligo_typer.specs.declared.typed_expr.TypedForm.{TypedForm}
use Rattle.ligo_typer.specs.Faults.{Faults, fault}
use Rattle.ligo_typer.specs.Patterns.{bound}
use Rattle.ligo_typer.specs.Scopes.{Scope}

-- an expression at its place: what is bound there, whether it is in tail position, and the type that is expected
pub record Part : Type 0 where
  pub scope : Scope
  pub tail : Bool
  pub expr : Expr
  pub expected : Option SrcTy

-- what is typed next: an expression gives a value of a type, or asks that parts be typed, none before
-- another, and goes on by what they are; or these rules are broken
pub data Plan : Type 0 where
  Gives : SrcTy → TypedForm → Plan
  Asks : List Part → (List TypedExpr → Plan) → Plan
  Breaks : Faults → Plan

-- ---- signs

-- one part
abbrev pub on_one : (TypedExpr → Plan) → List TypedExpr → Plan
on_one next (x ∷ []) = next x
on_one next xs = Breaks []

abbrev pub ask : Part → (TypedExpr → Plan) → Plan
ask part next = Asks (part ∷ []) (on_one next)

-- two parts
abbrev pub on_two : (TypedExpr → TypedExpr → Plan) → List TypedExpr → Plan
on_two next (x ∷ y ∷ []) = next x y
on_two next xs = Breaks []

abbrev pub ask_two : Part → Part → (TypedExpr → TypedExpr → Plan) → Plan
ask_two part other next = Asks (part ∷ other ∷ []) (on_two next)

-- goes on where nothing is wrong
abbrev pub sound : Faults → Plan → Plan
sound [] plan = plan
sound (f ∷ fs) plan = Breaks (f ∷ fs)

-- each with the other
abbrev pub zip_with : {A B C : Type 0} → (A → B → C) → List A → List B → List C
zip_with f (a ∷ as') (b ∷ bs) = f a b ∷ zip_with f as' bs
zip_with f as' bs = []

-- ---- parts of an expression

-- typed from itself
abbrev pub alone : Part → Expr → Part
alone p e = record { scope = p.scope; tail = false; expr = e; expected = None }

-- typed against a type
abbrev pub against : Part → SrcTy → Expr → Part
against p t e = record { scope = p.scope; tail = false; expr = e; expected = Some t }

-- against what is expected of the whole
abbrev pub handed : Part → Expr → Part
handed p e = record { scope = p.scope; tail = false; expr = e; expected = p.expected }

-- in the place of the whole, where these are bound too
abbrev pub instead : Part → Scope → Expr → Part
instead p bound e = record { scope = bound ++ p.scope; tail = p.tail; expr = e; expected = p.expected }

-- the same part against a type
abbrev pub expecting : SrcTy → Part → Part
expecting t p = record { scope = p.scope; tail = p.tail; expr = p.expr; expected = Some t }

-- a rule that the expression breaks
abbrev pub wrong : Part → LigoKind → Plan
wrong p k = Breaks (fault k p.expr.at ∷ [])

-- by what is expected: nothing, a type without what the form asks for, or one with it
abbrev pub by_wanted : {A : Type 0} → Part → Plan → (A → Plan) → Option (Option A) → Plan
by_wanted p free held None = free
by_wanted p free held (Some None) = wrong p kind.Mismatch
by_wanted p free held (Some (Some a)) = held a

abbrev pub wants : {A : Type 0} → Part → (SrcTy → Option A) → Plan → (A → Plan) → Plan
wants p view free held = by_wanted p free held (option_map view p.expected)

-- what is there, or a mismatch
abbrev pub by_found : {A : Type 0} → Part → (A → Plan) → Option A → Plan
by_found p held None = wrong p kind.Mismatch
by_found p held (Some a) = held a

-- the types of expressions
abbrev pub types_of : List TypedExpr → List SrcTy
types_of xs = map (λ (x : TypedExpr). x.of) xs
