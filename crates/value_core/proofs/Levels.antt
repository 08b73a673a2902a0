-- Recursion by levels, and induction on the parts of a value.
use Rattle.std.proofs.Common.{◌≡◌, List, [], ◌∷◌, map, refl, ap, sym, subst, ◌∙◌, rules}
use Rattle.value_core.specs.declared.val.Val.{Val}
use Rattle.value_core.specs.declared.val.Emit.{Emit}
use Rattle.value_core.specs.declared.val.Val.TheOpen as one
use Rattle.value_core.specs.declared.val.Val.TheOpen.{Val-F, Emit-F}
use Rattle.value_core.specs.declared.val.Val.TheViews.{out-Val, roll-Val, the_lemmas}
use Rattle.value_core.specs.declared.val.Val.TheFolds.{fold_out-Val, fold_out-Emit, ind-Val, map-Val}
use Rattle.value_core.specs.Layer.{Layer, as_emit, by_level, flat, last_of, number_of, on_parts, parts_of, tag_of, texts_of}

pub out-roll : (x : Layer Val) → out-Val (roll-Val x) ≡ x
out-roll x = search (rules, the_lemmas)

pub roll-out : (v : Val) → roll-Val (out-Val v) ≡ v
roll-out v = search (rules, the_lemmas)

-- ---- recursion

-- recursion at one level
pub by_level-is : {A : Type 0} (f : Layer A → A) (v : Val) → by_level f v ≡ f (on_parts (by_level f) (out-Val v))
by_level-is {A} f v =
    fold_out-Val A (Emit-F A (Unit {0})) f as_emit v
    ∙ (λ i. f (map-Val Val Emit A (Emit-F A (Unit {0})) (by_level f) (λ e. fold_out-Emit A (Emit-F A (Unit {0})) f as_emit e i) (out-Val v)))

pub by_level-roll : {A : Type 0} (f : Layer A → A) (x : Layer Val) → by_level f (roll-Val x) ≡ f (on_parts (by_level f) x)
by_level-roll f x = by_level-is f (roll-Val x) ∙ ap (λ y. f (on_parts (by_level f) y)) (out-roll x)

-- ---- what a level keeps where its parts change

module _ {A B : Type 0} (f : A → B) where
  flat-map : (es : List (A × A)) → flat (map (λ e. (f e.0, f e.1)) es) ≡ map f (flat es)
  flat-map [] = refl
  flat-map (e ∷ es) = ap (λ l. f e.0 ∷ f e.1 ∷ l) (flat-map es)

  pub parts_of-on_parts : (x : Layer A) → parts_of (on_parts f x) ≡ map f (parts_of x)
  parts_of-on_parts (one.Map es) = flat-map es
  parts_of-on_parts _ = refl

  pub tag_of-on_parts : (x : Layer A) → tag_of (on_parts f x) ≡ tag_of x
  tag_of-on_parts one.Unit = refl
  tag_of-on_parts _ = refl

  pub number_of-on_parts : (x : Layer A) → number_of (on_parts f x) ≡ number_of x
  number_of-on_parts one.Unit = refl
  number_of-on_parts _ = refl

  pub texts_of-on_parts : (x : Layer A) → texts_of (on_parts f x) ≡ texts_of x
  texts_of-on_parts one.Unit = refl
  texts_of-on_parts _ = refl

  pub last_of-on_parts : (x : Layer A) → last_of (on_parts f x) ≡ last_of x
  last_of-on_parts one.Unit = refl
  last_of-on_parts _ = refl

-- ---- induction

-- a claim of each value of a list
abbrev pub Each : (Val → Type 0) → List Val → Type 0
Each P [] = Unit {0}
Each P (x ∷ xs) = P x × Each P xs

module _ (P : Val → Type 0) where
  abbrev Proved : Type 0
  Proved = (v : Val) × P v

  abbrev ProvedEmit : Type 0
  ProvedEmit = (e : Emit) × P e.param

  abbrev inner : Val-F Proved ProvedEmit → Layer Val
  inner y = map-Val Proved ProvedEmit Val Emit (λ e. e.0) (λ e. e.0) y

  each : (xs : List Proved) → Each P (map (λ e. e.0) xs)
  each [] = tt
  each (x ∷ xs) = (x.1, each xs)

  each_flat : (es : List (Proved × Proved)) → Each P (flat (map (λ e. (e.0.0, e.1.0)) es))
  each_flat [] = tt
  each_flat (e ∷ es) = (e.0.1, (e.1.1, each_flat es))

  each_part : (y : Val-F Proved ProvedEmit) → Each P (parts_of (inner y))
  each_part (one.Some part) = (part.1, tt)
  each_part (one.Left part) = (part.1, tt)
  each_part (one.Right part) = (part.1, tt)
  each_part (one.Pair a b) = (a.1, (b.1, tt))
  each_part (one.List items) = each items
  each_part (one.Set items) = each items
  each_part (one.Map entries) = each_flat entries
  each_part (one.Operation emit) = (emit.1, tt)
  each_part _ = tt

  -- what holds of a value where it holds of its parts holds of each value
  pub induction : ((v : Val) → Each P (parts_of (out-Val v)) → P v) → (v : Val) → P v
  induction step = ind-Val P (λ e. P e.param)
      (λ x y is. step (roll-Val x) (subst (λ l. Each P (parts_of l)) (is ∙ sym (out-roll x)) (each_part y)))
      (λ x y is. subst (λ e. P e.param) is y.param.1)
