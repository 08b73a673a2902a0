-- A part is one typed expression, and breaks no rule where it is one; a declaration is followed by one state, and so a program is one typed program.
use Rattle.std.proofs.Common.{◌≡◌, List, [], ◌∷◌, refl, sym, subst}
use Rattle.ligo_typer.specs.declared.typed_expr.TypedExpr.{TypedExpr}
use Rattle.ligo_typer.specs.declared.fault.LigoFault.{LigoFault}
use Rattle.ligo_typer.specs.Limits.{type_breaches}
use Rattle.ligo_typer.specs.Scopes.{Known}
use Rattle.ligo_typer.specs.Faults.{IsOneOf}
use Rattle.ligo_typer.specs.Plans.{Part, Plan}
use Rattle.ligo_typer.specs.Typing.{Follows, gives, asks, AreTyped, none, one_more, IsBroken, unfit, differs, inside, behind, IsOneBroken, this, later}

pub none_among : {A : Type 0} {P : Type 0} (as' : List A) (a : A) → as' ≡ [] → IsOneOf as' a → P
none_among as' a e h = absurd (subst (λ l. IsOneOf l a) e h)

module _ (known : Known) where
  mutual
    pub unique : {p : Part} {plan : Plan} {x y : TypedExpr} → Follows known p plan x → Follows known p plan y → x ≡ y
    unique (gives p t form fit expects) (gives p' t' form' fit' expects') = refl
    unique (asks p parts next xs x all h) (asks p' parts' next' ys y all' h') =
        unique h (subst (λ l. Follows known p (next l) y) (sym (are_unique all all')) h')

    pub are_unique : {ps : List Part} {xs ys : List TypedExpr} → AreTyped known ps xs → AreTyped known ps ys → xs ≡ ys
    are_unique none none = refl
    are_unique (one_more p ps x xs h all) (one_more p' ps' y ys h' all') = λ i. unique h h' i ∷ are_unique all all' i

  mutual
    pub unbroken : {p : Part} {plan : Plan} {x : TypedExpr} {f : LigoFault} → Follows known p plan x → IsBroken known p plan f → ⊥
    unbroken (gives p t form fit expects) (unfit p' t' form' k one) = none_among (type_breaches t) k fit one
    unbroken (gives p t form fit expects) (differs p' t' form' other) = other expects
    unbroken (asks p parts next xs x all h) (inside p' parts' next' f one) = none_broken all one
    unbroken (asks p parts next xs x all h) (behind p' parts' next' ys f all' b) =
        unbroken h (subst (λ l. IsBroken known p (next l) f) (sym (are_unique all all')) b)

    pub none_broken : {ps : List Part} {xs : List TypedExpr} {f : LigoFault} → AreTyped known ps xs → IsOneBroken known ps f → ⊥
    none_broken {f = f} none broken = elim broken [ ]
    none_broken (one_more p ps x xs h all) (this p' ps' f b) = unbroken h b
    none_broken (one_more p ps x xs h all) (later p' ps' f b) = none_broken all b
