-- The bodies of an instruction: whether each begins within the limits, and how one after another ends.
use Rattle.std.proofs.Common.{◌≡◌, ℕ, ◌+◌, ◌≤◌, Bool, true, false, ◌&&◌, IsTrue, ◌↔◌, List, [], ◌∷◌, length, inl, inr, refl, ap, sym, subst, ◌∙◌, arith}
use Rattle.std.specs.Prelude.{Option, None, Some, Result, Ok, Err}
use Rattle.std.specs.Result.{IsErrAnd}
use Rattle.std.specs.List.{list_all}
use Rattle.std.proofs.lemmas.List.{length-map}
use Rattle.std.proofs.lemmas.Bool.{and_from, cases_lt}
use Rattle.value_core.specs.declared.ty.Ty.{Ty}
use Rattle.michelson_code.specs.declared.instr.Instr.{Instr}
use Rattle.michelson_code.specs.declared.script.Script.{Script}
use Rattle.michelson_code.specs.declared.type_fault.TypeKind.{TypeKind}
use Rattle.michelson_code.specs.FirstFault.{BodiesFault, CodeFault, HasTooLarge, IsStart, IsTooTall, later_body, this_body}
use Rattle.michelson_code.specs.Typing.{BodiesTyped, CodeTyped, Outcome, To, Start, no_body, one_body}
use Rattle.michelson_code.specs.WrittenTypes.{is_within_limits}
use Rattle.michelson_typer.specs.declared.closing.BodyEnds.{BodyEnds}
use Rattle.michelson_typer.specs.declared.closing.BodyEnds.TheVariants as ends
use Rattle.michelson_typer.specs.declared.fault.TypeRefusal.{TypeRefusal}
use Rattle.michelson_typer.specs.declared.stack.Ends.{Ends}
use Rattle.michelson_typer.specs.Closed.{end_at, end_of, is_end_in}
use Rattle.michelson_typer.specs.FirstKinds.{RulesOut}
use Rattle.michelson_typer.specs.Tables.{Grows, type_at, types_at}
use Rattle.michelson_typer.specs.Told.{BodiesOrTold, EndsOrTold, IsBehind, IsTold, SomeStart}
use Rattle.michelson_typer.proofs.GrowLaws.{in_later, types_later}
use Rattle.michelson_typer.proofs.ToldLaws.{clash, told_weaker}

-- ---- limits

-- a stack with so many items set aside is low
not_low : (b : Bool) (table : List Ty) (m : ℕ) (ids : List ℕ) → b ≡ false → IsTrue b ↔ (m + length ids ≤ 128) → IsTooTall m (types_at table ids)
not_low b table m ids is tells =
    let as_long : length (types_at table ids) ≡ length ids = length-map ids (type_at table) in
    elim (cases_lt 128 (m + length ids)) [
      | inl more ↦ omega arith
      | inr most ↦ (let low : b ≡ true = tells.1 most in absurd (clash b low is))
    ]

pub rules_low : (b : Bool) (table : List Ty) (m : ℕ) (ids : List ℕ) → IsTrue b ↔ (m + length ids ≤ 128) → RulesOut b (IsTooTall m (types_at table ids))
rules_low true table m ids tells = λ tall. let low = tells.0 refl in let as_long : length (types_at table ids) ≡ length ids = length-map ids (type_at table) in omega arith
rules_low false table m ids tells = not_low false table m ids refl tells

pub rules_light : (b : Bool) (m : ℕ) (u : List Ty) → b ≡ list_all is_within_limits u → RulesOut b (HasTooLarge m u)
rules_light true m u is = λ large. let e : true ≡ false = is ∙ large in cc
rules_light false m u is = sym is

module _ (F : ℕ → List Ty → Type 0) (n : ℕ) where
  one_of : (x : Start) → (F (n + x.0) x.1 → ⊥) → (z : Start) → IsStart z (x ∷ []) → F (n + z.0) z.1 → ⊥
  one_of x out z (inl same) f = out (subst (λ (w : Start). F (n + w.0) w.1) same f)
  one_of x out z (inr never) f = never

  two_of : (x y : Start) → (F (n + x.0) x.1 → ⊥) → (F (n + y.0) y.1 → ⊥) → (z : Start) → IsStart z (x ∷ y ∷ []) → F (n + z.0) z.1 → ⊥
  two_of x y out further z (inl same) f = out (subst (λ (w : Start). F (n + w.0) w.1) same f)
  two_of x y out further z (inr later) f = one_of y further z later f

  pub one_begins : (b : Bool) (x : Start) → RulesOut b (F (n + x.0) x.1) → RulesOut b (SomeStart F n (x ∷ []))
  one_begins true x out = λ some. one_of x out some.0 some.1.0 some.1.1
  one_begins false x out = (x, (inl refl, out))

  pub two_begin : (b d : Bool) (x y : Start) → RulesOut b (F (n + x.0) x.1) → RulesOut d (F (n + y.0) y.1) → RulesOut (b && d) (SomeStart F n (x ∷ y ∷ []))
  two_begin true true x y out further = λ some. two_of x y out further some.0 some.1.0 some.1.1
  two_begin true false x y out further = (y, (inr (inl refl), further))
  two_begin false d x y out further = (x, (inl refl, out))

  -- the first is ruled in alone
  pub first_begins : (b : Bool) (x y : Start) → b ≡ false → RulesOut b (F (n + x.0) x.1) → RulesOut b (SomeStart F n (x ∷ y ∷ []))
  first_begins true x y is out = absurd (clash true refl is)
  first_begins false x y is out = (x, (inl refl, out))

-- ---- ends

module _ (old new : List Ty) (grows : Grows old new) where
  pub end_later : (e : Option (List ℕ)) → is_end_in old e ≡ true → end_at new e ≡ end_at old e
  end_later None within = refl
  end_later (Some ids) within = ap To (types_later old new grows ids within)

  pub end_in_later : (e : Option (List ℕ)) → is_end_in old e ≡ true → is_end_in new e ≡ true
  end_in_later None within = refl
  end_in_later (Some ids) within = in_later old new grows ids within

-- ---- bodies

module _ (s : Script) (n : ℕ) (c : List Instr) (x : Start) where
  pub body_typed : (o : Outcome) → CodeTyped s (n + x.0) c x.1 o → BodiesTyped s n (c ∷ []) (x ∷ []) (o ∷ [])
  body_typed o typed = one_body n c [] x [] o [] typed (no_body n)

  pub first_told : (cs : List (List Instr)) (ys : List Start) (path : List ℕ) (k : TypeKind) → IsBehind 0 (CodeFault s (n + x.0) c x.1) path k → BodiesFault s n (c ∷ cs) (x ∷ ys) path k
  first_told cs ys path k h =
      subst (λ (p : List ℕ). BodiesFault s n (c ∷ cs) (x ∷ ys) p k) (sym h.place) (this_body n c cs x ys h.rest k h.holds)

  module _ (d : List Instr) (y : Start) (o : Outcome) (typed : CodeTyped s (n + x.0) c x.1 o) where
    pub both_typed : (p : Outcome) → CodeTyped s (n + y.0) d y.1 p → BodiesTyped s n (c ∷ d ∷ []) (x ∷ y ∷ []) (o ∷ p ∷ [])
    both_typed p further = one_body n c (d ∷ []) x (y ∷ []) o (p ∷ []) typed (one_body n d [] y [] p [] further (no_body n))

    pub second_told : (path : List ℕ) (k : TypeKind) → IsBehind 1 (CodeFault s (n + y.0) d y.1) path k → BodiesFault s n (c ∷ d ∷ []) (x ∷ y ∷ []) path k
    second_told path k h =
        subst (λ (p : List ℕ). BodiesFault s n (c ∷ d ∷ []) (x ∷ y ∷ []) p k) (sym h.place)
        (later_body n c (d ∷ []) x (y ∷ []) o 0 h.rest k typed (this_body n d [] y [] h.rest k h.holds))

-- ---- what is answered of the bodies

pub err_ends : (table : List Ty) (IsSo : Outcome → Type 0) (Holds : List ℕ → TypeKind → Type 0) (f : TypeRefusal) (r : Result Ends TypeRefusal) → IsErrAnd r (λ e. e ≡ f) → IsTold Holds f → EndsOrTold table IsSo Holds r
err_ends table IsSo Holds f (Ok e) is held = absurd is
err_ends table IsSo Holds f (Err e) is held = subst (IsTold Holds) (sym is) held

err_bodies : (table : List Ty) (AreSo : List Outcome → Type 0) (Holds : List ℕ → TypeKind → Type 0) (f : TypeRefusal) (r : Result BodyEnds TypeRefusal) → IsErrAnd r (λ e. e ≡ f) → IsTold Holds f → BodiesOrTold table AreSo Holds r
err_bodies table AreSo Holds f (Ok e) is held = absurd is
err_bodies table AreSo Holds f (Err e) is held = subst (IsTold Holds) (sym is) held

module _ (s : Script) (n : ℕ) (table : List Ty) (cs : List (List Instr)) (st : List Start) where
  abbrev Answered : List (List Instr) → List Start → Result BodyEnds TypeRefusal → Type 0
  Answered ds ys r = BodiesOrTold table (BodiesTyped s n ds ys) (BodiesFault s n ds ys) r

  these : (ds : List (List Instr)) (ys : List Start) (r : Result BodyEnds TypeRefusal) → cs ≡ ds → st ≡ ys → Answered ds ys r → Answered cs st r
  these ds ys r codes starts h = subst (λ (z : List Start). Answered cs z r) (sym starts) (subst (λ (z : List (List Instr)). Answered z ys r) (sym codes) h)

  module _ (c : List Instr) (x : Start) (ds : List (List Instr)) (ys : List Start) (codes : cs ≡ c ∷ ds) (starts : st ≡ x ∷ ys) where
    pub first_answer : (f : TypeRefusal) (r : Result BodyEnds TypeRefusal) → IsErrAnd r (λ e. e ≡ f) → IsTold (IsBehind 0 (CodeFault s (n + x.0) c x.1)) f → Answered cs st r
    first_answer f r is held =
        these (c ∷ ds) (x ∷ ys) r codes starts
        (err_bodies table (BodiesTyped s n (c ∷ ds) (x ∷ ys)) (BodiesFault s n (c ∷ ds) (x ∷ ys)) f r is
        (told_weaker (IsBehind 0 (CodeFault s (n + x.0) c x.1)) (BodiesFault s n (c ∷ ds) (x ∷ ys)) f (first_told s n c x ds ys) held))

  module _ (c : List Instr) (x : Start) (codes : cs ≡ c ∷ []) (starts : st ≡ x ∷ []) where
    pub one_answer : (e : Ends) → CodeTyped s (n + x.0) c x.1 (end_at table (end_of e)) × IsTrue (is_end_in table (end_of e)) → Answered cs st (Ok (ends.One e))
    one_answer e h = these (c ∷ []) (x ∷ []) (Ok (ends.One e)) codes starts (body_typed s n c x (end_at table (end_of e)) h.0, and_from _ _ h.1 refl)

  module _ (c d : List Instr) (x y : Start) (codes : cs ≡ c ∷ d ∷ []) (starts : st ≡ x ∷ y ∷ []) (old : List Ty) (grows : Grows old table) (e : Ends)
      (first : CodeTyped s (n + x.0) c x.1 (end_at old (end_of e)) × IsTrue (is_end_in old (end_of e))) (u : Start) (same : u ≡ y) where
    first_typed : CodeTyped s (n + x.0) c x.1 (end_at table (end_of e))
    first_typed = subst (CodeTyped s (n + x.0) c x.1) (sym (end_later old table grows (end_of e) first.1)) first.0

    pub second_answer : (f : TypeRefusal) (r : Result BodyEnds TypeRefusal) → IsErrAnd r (λ z. z ≡ f) → IsTold (IsBehind 1 (CodeFault s (n + u.0) d u.1)) f → Answered cs st r
    second_answer f r is held =
        these (c ∷ d ∷ []) (x ∷ y ∷ []) r codes starts
        (err_bodies table (BodiesTyped s n (c ∷ d ∷ []) (x ∷ y ∷ [])) (BodiesFault s n (c ∷ d ∷ []) (x ∷ y ∷ [])) f r is
        (told_weaker (IsBehind 1 (CodeFault s (n + y.0) d y.1)) (BodiesFault s n (c ∷ d ∷ []) (x ∷ y ∷ [])) f (second_told s n c x d y (end_at table (end_of e)) first_typed)
        (subst (λ (z : Start). IsTold (IsBehind 1 (CodeFault s (n + z.0) d z.1)) f) same held)))

    pub two_answer : (g : Ends) → CodeTyped s (n + u.0) d u.1 (end_at table (end_of g)) × IsTrue (is_end_in table (end_of g)) → Answered cs st (Ok (ends.Two e g))
    two_answer g h =
        these (c ∷ d ∷ []) (x ∷ y ∷ []) (Ok (ends.Two e g)) codes starts (
          both_typed s n c x d y (end_at table (end_of e)) first_typed (end_at table (end_of g)) (subst (λ (z : Start). CodeTyped s (n + z.0) d z.1 (end_at table (end_of g))) same h.0),
          and_from _ _ (end_in_later old table grows (end_of e) first.1) (and_from _ _ h.1 refl),
        )
