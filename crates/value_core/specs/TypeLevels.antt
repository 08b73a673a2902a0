-- Types one level at a time, and induction on the parts of a type.
use Rattle.std.proofs.Common.{◌≡◌, List, [], ◌∷◌, sym, ap, subst, ◌∙◌, rules}
use Rattle.value_core.specs.declared.ty.Ty.{Ty}
use Rattle.value_core.specs.declared.ty.Ty.TheVariants as type
use Rattle.value_core.specs.declared.ty.Ty.TheOpen as ty
use Rattle.value_core.specs.declared.ty.Ty.TheOpen.{Ty-F}
use Rattle.value_core.specs.declared.ty.Ty.TheViews.{out-Ty, roll-Ty, the_lemmas}
use Rattle.value_core.specs.declared.ty.Ty.TheFolds.{fold-Ty, fold_out-Ty, ind-Ty, map-Ty}

pub out-roll : (x : Ty-F Ty) → out-Ty (roll-Ty x) ≡ x
out-roll x = search (rules, the_lemmas)

pub roll-out : (t : Ty) → roll-Ty (out-Ty t) ≡ t
roll-out t = search (rules, the_lemmas)

pub shows_pair : (s t : Ty) → out-Ty (type.Pair s t) ≡ ty.Pair s t
shows_pair s t = search (rules, the_lemmas)

pub shows_map : (k v : Ty) → out-Ty (type.Map k v) ≡ ty.Map k v
shows_map k v = search (rules, the_lemmas)

pub shows_big_map : (k v : Ty) → out-Ty (type.BigMap k v) ≡ ty.BigMap k v
shows_big_map k v = search (rules, the_lemmas)

pub rolls_pair : (t s u : Ty) → out-Ty t ≡ ty.Pair s u → t ≡ type.Pair s u
rolls_pair t s u e = sym (roll-out t) ∙ ap roll-Ty e ∙ type.rolls-Pair s u

pub rolls_big_map : (t k v : Ty) → out-Ty t ≡ ty.BigMap k v → t ≡ type.BigMap k v
rolls_big_map t k v e = sym (roll-out t) ∙ ap roll-Ty e ∙ type.rolls-BigMap k v

-- recursion at one level
pub fold-at : {A : Type 0} (f : Ty-F A → A) (t : Ty) (x : Ty-F Ty) → out-Ty t ≡ x → fold-Ty A f t ≡ f (map-Ty Ty A (fold-Ty A f) x)
fold-at {A} f t x e = fold_out-Ty A f t ∙ ap (λ (y : Ty-F Ty). f (map-Ty Ty A (fold-Ty A f) y)) e

-- the types in one level of a type
abbrev pub types_in : Ty-F Ty → List Ty
types_in (ty.Option t) = t ∷ []
types_in (ty.Or s t) = s ∷ t ∷ []
types_in (ty.Pair s t) = s ∷ t ∷ []
types_in (ty.List t) = t ∷ []
types_in (ty.Set t) = t ∷ []
types_in (ty.Map k v) = k ∷ v ∷ []
types_in (ty.BigMap k v) = k ∷ v ∷ []
types_in (ty.Contract t) = t ∷ []
types_in _ = []

-- a claim of each type of a list
abbrev pub Each : (Ty → Type 0) → List Ty → Type 0
Each P [] = Unit {0}
Each P (t ∷ ts) = P t × Each P ts

module _ (P : Ty → Type 0) where
  abbrev Proved : Type 0
  Proved = (t : Ty) × P t

  each_part : (y : Ty-F Proved) → Each P (types_in (map-Ty Proved Ty (λ e. e.0) y))
  each_part (ty.Option t) = (t.1, tt)
  each_part (ty.Or s t) = (s.1, (t.1, tt))
  each_part (ty.Pair s t) = (s.1, (t.1, tt))
  each_part (ty.List t) = (t.1, tt)
  each_part (ty.Set t) = (t.1, tt)
  each_part (ty.Map k v) = (k.1, (v.1, tt))
  each_part (ty.BigMap k v) = (k.1, (v.1, tt))
  each_part (ty.Contract t) = (t.1, tt)
  each_part _ = tt

  -- what holds of a type where it holds of its parts holds of each type
  pub induction : ((t : Ty) → Each P (types_in (out-Ty t)) → P t) → (t : Ty) → P t
  induction step = ind-Ty P (λ x y is.
      step (roll-Ty x) (subst (λ (z : Ty-F Ty). Each P (types_in z)) (is ∙ sym (out-roll x)) (each_part y)))
