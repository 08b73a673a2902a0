-- One code in two worlds: its runs are the same as long as the worlds answer alike. One run after another, and each instruction with bodies.
use Rattle.std.proofs.Common.{◌≡◌, ℕ, zero, suc, ◌+◌, Bool, true, false, cond, List, [], ◌∷◌, ◌++◌, length, take, drop, Option, Some, None, refl, subst}
use Rattle.std.specs.Prelude.{nat_le}
use Rattle.value_core.specs.declared.val.Val.{Val}
use Rattle.value_core.specs.declared.val.Val.TheOpen as is
use Rattle.value_core.specs.declared.val.Val.TheVariants as value
use Rattle.value_core.specs.declared.val.Val.TheViews.{out-Val}
use Rattle.value_core.specs.Layer.{Layer}
use Rattle.michelson_rules.specs.World.{World, reply_of}
use Rattle.michelson_rules.specs.Runs.{Beside, Changes, Charge, Ending, Failed, Look, Mark, Missed, Return, Run, Take, Turn, ends, go_on, in_a_turn, then_do, with_turns}
use Rattle.michelson_rules.specs.Bodies.{Again, Meaning, Neither, Off, On, below, by_bool, by_first, by_none, by_side, by_top, each, each_of, items_of, looped, on_top, once_more, repeated, results, with_result}
use Rattle.michelson_rules.specs.Rules.{gathered, iterated, mapped}

module _ (w v : World) where
  -- a question is answered alike; no other mark asks
  abbrev pub Told : Mark → Type 0
  Told (Charge n) = Unit {0}
  Told Turn = Unit {0}
  Told (Look a) = reply_of w a ≡ reply_of v a
  Told (Take n) = Unit {0}

  -- the marks and the ends are the same as long as the worlds answer alike
  abbrev pub AlikeBy : {A : Type 0} → List Mark → Ending A → List Mark → Ending A → Type 0
  AlikeBy [] e [] d = e ≡ d
  AlikeBy [] e (n ∷ ns) d = ⊥
  AlikeBy (m ∷ ms) e [] d = ⊥
  AlikeBy (m ∷ ms) e (n ∷ ns) d = (m ≡ n) × (Told m → AlikeBy ms e ns d)

  abbrev pub Alike : {A : Type 0} → Run A → Run A → Type 0
  Alike r q = AlikeBy r.marks r.ending q.marks q.ending

  abbrev pub AllAlike : Meaning → Meaning → Type 0
  AllAlike c d = (stack : List Val) (b : Beside) → Alike (c stack b) (d stack b)

  alike_by_self : {A : Type 0} (ms : List Mark) (e : Ending A) → AlikeBy ms e ms e
  alike_by_self [] e = refl
  alike_by_self (m ∷ ms) e = (refl, λ t. alike_by_self ms e)

  pub alike_self : {A : Type 0} (r : Run A) → Alike r r
  alike_self r = alike_by_self r.marks r.ending

  -- ---- runs

  going : {A B : Type 0} (e : Ending A) (k j : A → Beside → Run B) → ((a : A) (b : Beside) → Alike (k a b) (j a b)) → Alike (go_on e k) (go_on e j)
  going (Return a b) k j h = h a b
  going (Failed y) k j h = refl
  going Missed k j h = refl

  then_by : {A B : Type 0} (ms ns : List Mark) (e d : Ending A) (k j : A → Beside → Run B) → AlikeBy ms e ns d → ((a : A) (b : Beside) → Alike (k a b) (j a b)) →
      Alike (then_do (record { marks = ms; ending = e }) k) (then_do (record { marks = ns; ending = d }) j)
  then_by [] [] e d k j p h = subst (λ x. Alike (go_on e k) (go_on x j)) p (going e k j h)
  then_by [] (n ∷ ns) e d k j p h = absurd p
  then_by (m ∷ ms) [] e d k j p h = absurd p
  then_by (m ∷ ms) (n ∷ ns) e d k j p h = (p.0, λ t. then_by ms ns e d k j (p.1 t) h)

  -- one run after another
  pub alike_then : {A B : Type 0} (r q : Run A) (k j : A → Beside → Run B) → Alike r q → ((a : A) (b : Beside) → Alike (k a b) (j a b)) → Alike (then_do r k) (then_do q j)
  alike_then r q k j p h = then_by r.marks q.marks r.ending q.ending k j p h

  turns_alike : {A : Type 0} (turns : ℕ) (versions : List Changes) (body other : Beside → Run A) → ((b : Beside) → Alike (body b) (other b)) → Alike (with_turns turns versions body) (with_turns turns versions other)
  turns_alike zero versions body other h = refl
  turns_alike (suc turns) versions body other h = (refl, λ t. h _)

  -- a body that starts for a turn
  turn_alike : {A : Type 0} (body other : Beside → Run A) → ((b : Beside) → Alike (body b) (other b)) → (beside : Beside) → Alike (in_a_turn body beside) (in_a_turn other beside)
  turn_alike body other h beside = turns_alike beside.turns beside.versions body other h

  either_alike : {A : Type 0} (b : Bool) (x y x' y' : Run A) → Alike x x' → Alike y y' → Alike (cond b x y) (cond b x' y')
  either_alike true x y x' y' p q = p
  either_alike false x y x' y' p q = q

  -- ---- instructions

  pub below_alike : (n : ℕ) (body other : Meaning) → AllAlike body other → AllAlike (below n body) (below n other)
  below_alike n body other h stack beside =
      either_alike (nat_le n (length stack)) _ _ _ _
      (alike_then (body (drop n stack) beside) (other (drop n stack) beside) (λ s b. ends (Return (take n stack ++ s) b)) (λ s b. ends (Return (take n stack ++ s) b))
      (h (drop n stack) beside) (λ s b. refl)) refl

  pub on_top_alike : (f g : Layer Val → Meaning) → ((x : Layer Val) → AllAlike (f x) (g x)) → AllAlike (on_top f) (on_top g)
  on_top_alike f g h (x ∷ stack) beside = h (out-Val x) stack beside
  on_top_alike f g h [] beside = refl

  module _ (c d c' d' : Meaning) (first : AllAlike c c') (second : AllAlike d d') where
    pub bool_alike : (x : Layer Val) → AllAlike (by_bool c d x) (by_bool c' d' x)
    bool_alike (is.Bool true) stack b = first stack b
    bool_alike (is.Bool false) stack b = second stack b
    bool_alike _ stack b = refl

    pub none_alike : (x : Layer Val) → AllAlike (by_none c d x) (by_none c' d' x)
    none_alike is.Nothing stack b = first stack b
    none_alike (is.Some x) stack b = second (x ∷ stack) b
    none_alike _ stack b = refl

    pub side_alike : (x : Layer Val) → AllAlike (by_side c d x) (by_side c' d' x)
    side_alike (is.Left x) stack b = first (x ∷ stack) b
    side_alike (is.Right x) stack b = second (x ∷ stack) b
    side_alike _ stack b = refl

    pub first_alike : (x : Layer Val) → AllAlike (by_first c d x) (by_first c' d' x)
    first_alike (is.List []) stack b = second stack b
    first_alike (is.List (x ∷ items)) stack b = first (x ∷ value.List items ∷ stack) b
    first_alike _ stack b = refl

  module _ (body other : Meaning) (same : AllAlike body other) where
    once_alike : (k j : Meaning) → AllAlike k j → (again : Again) (beside : Beside) → Alike (once_more body k again beside) (once_more other j again beside)
    once_alike k j h (On stack) beside =
        turn_alike (λ b. then_do (body stack b) k) (λ b. then_do (other stack b) j) (λ b. alike_then (body stack b) (other stack b) k j (same stack b) h) beside
    once_alike k j h (Off stack) beside = refl
    once_alike k j h Neither beside = refl

    repeated_alike : (n : ℕ) (while : Layer Val → List Val → Again) → AllAlike (repeated n while body) (repeated n while other)
    repeated_alike zero while stack beside = refl
    repeated_alike (suc n) while stack beside = once_alike (repeated n while body) (repeated n while other) (repeated_alike n while) (by_top while stack) beside

    pub looped_alike : (while : Layer Val → List Val → Again) → AllAlike (looped while body) (looped while other)
    looped_alike while stack beside = repeated_alike (beside.turns + 1) while stack beside

    each_alike : (items : List Val) → AllAlike (each body items) (each other items)
    each_alike [] stack beside = refl
    each_alike (x ∷ items) stack beside =
        turn_alike (λ b. then_do (body (x ∷ stack) b) (each body items)) (λ b. then_do (other (x ∷ stack) b) (each other items))
        (λ b. alike_then (body (x ∷ stack) b) (other (x ∷ stack) b) (each body items) (each other items) (same (x ∷ stack) b) (each_alike items)) beside

    each_of_alike : (items : Option (List Val)) → AllAlike (each_of body items) (each_of other items)
    each_of_alike (Some items) stack beside = each_alike items stack beside
    each_of_alike None stack beside = refl

    pub iterated_alike : (x : Layer Val) → AllAlike (iterated body x) (iterated other x)
    iterated_alike x = each_of_alike (items_of x)

    result_alike : (k j : List Val → Beside → Run (List Val × List Val)) → ((stack : List Val) (b : Beside) → Alike (k stack b) (j stack b)) →
        (stack : List Val) (beside : Beside) → Alike (with_result k stack beside) (with_result j stack beside)
    result_alike k j h (y ∷ stack) beside =
        alike_then (k stack beside) (j stack beside) (λ r b. ends (Return (y ∷ r.0, r.1) b)) (λ r b. ends (Return (y ∷ r.0, r.1) b)) (h stack beside) (λ r b. refl)
    result_alike k j h [] beside = refl

    results_alike : (items stack : List Val) (beside : Beside) → Alike (results body items stack beside) (results other items stack beside)
    results_alike [] stack beside = refl
    results_alike (x ∷ items) stack beside =
        turn_alike (λ b. then_do (body (x ∷ stack) b) (with_result (results body items))) (λ b. then_do (other (x ∷ stack) b) (with_result (results other items)))
        (λ b. alike_then (body (x ∷ stack) b) (other (x ∷ stack) b) (with_result (results body items)) (with_result (results other items)) (same (x ∷ stack) b)
        (result_alike (results body items) (results other items) (results_alike items))) beside

    mapped_items_alike : (x : Layer Val) (items stack : List Val) (beside : Beside) →
        Alike (then_do (results body items stack beside) (gathered x)) (then_do (results other items stack beside) (gathered x))
    mapped_items_alike x items stack beside =
        alike_then (results body items stack beside) (results other items stack beside) (gathered x) (gathered x) (results_alike items stack beside) (λ r b. alike_self (gathered x r b))

    pub mapped_alike : (x : Layer Val) → AllAlike (mapped body x) (mapped other x)
    mapped_alike (is.Set items) stack beside = refl
    mapped_alike (is.List items) stack beside = mapped_items_alike (is.List items) items stack beside
    mapped_alike (is.Map entries) stack beside = mapped_items_alike (is.Map entries) _ stack beside
    mapped_alike _ stack beside = refl
