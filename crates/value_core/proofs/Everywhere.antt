-- A test of every level, at one level: it holds there and everywhere in the parts.
use Rattle.std.proofs.Common.{◌≡◌, Bool, List, [], ◌∷◌, map, refl, ap, ◌∙◌}
use Rattle.std.specs.Prelude.{◌&&◌}
use Rattle.std.specs.List.{list_all}
use Rattle.std.proofs.lemmas.List.Folds.{list_all-map}
use Rattle.value_core.specs.declared.val.Val.{Val}
use Rattle.value_core.specs.declared.val.Val.TheOpen as one
use Rattle.value_core.specs.declared.val.Val.TheViews.{out-Val, roll-Val}
use Rattle.value_core.specs.Layer.{Layer, flat, on_parts, parts_of}
use Rattle.value_core.specs.Everywhere.{everywhere, tested, whole}
use Rattle.value_core.proofs.Levels.{Each, by_level-is, induction, out-roll, parts_of-on_parts, roll-out}

-- ---- a map over the parts that changes none of them

module _ (f : Val → Val) where
  abbrev Stays : Val → Type 0
  Stays v = f v ≡ v

  items_stay : (vs : List Val) → Each Stays vs → map f vs ≡ vs
  items_stay [] stay = refl
  items_stay (v ∷ vs) stay = λ i. stay.0 i ∷ items_stay vs stay.1 i

  entries_stay : (es : List (Val × Val)) → Each Stays (flat es) → map (λ e. (f e.0, f e.1)) es ≡ es
  entries_stay [] stay = refl
  entries_stay (e ∷ es) stay = λ i. (stay.0 i, stay.1.0 i) ∷ entries_stay es stay.1.1 i

  layer_stays : (x : Layer Val) → Each Stays (parts_of x) → on_parts f x ≡ x
  layer_stays (one.Some part) stay = λ i. one.Some (stay.0 i)
  layer_stays (one.Left part) stay = λ i. one.Left (stay.0 i)
  layer_stays (one.Right part) stay = λ i. one.Right (stay.0 i)
  layer_stays (one.Pair a b) stay = λ i. one.Pair (stay.0 i) (stay.1.0 i)
  layer_stays (one.List items) stay = λ i. one.List (items_stay items stay i)
  layer_stays (one.Set items) stay = λ i. one.Set (items_stay items stay i)
  layer_stays (one.Map entries) stay = λ i. one.Map (entries_stay entries stay i)
  layer_stays (one.Operation emit) stay = λ i. one.Operation (record { dest = emit.dest; entry = emit.entry; param = stay.0 i; amount = emit.amount })
  layer_stays _ stay = refl

-- ---- one map after another

module _ {A B C : Type 0} (g : B → C) (f : A → B) where
  items_twice : (vs : List A) → map g (map f vs) ≡ map (λ v. g (f v)) vs
  items_twice [] = refl
  items_twice (v ∷ vs) = ap (λ l. g (f v) ∷ l) (items_twice vs)

  abbrev entry : A × A → B × B
  entry e = (f e.0, f e.1)

  abbrev next_entry : B × B → C × C
  next_entry e = (g e.0, g e.1)

  abbrev last_entry : A × A → C × C
  last_entry e = (g (f e.0), g (f e.1))

  entries_twice : (es : List (A × A)) → map next_entry (map entry es) ≡ map last_entry es
  entries_twice [] = refl
  entries_twice (e ∷ es) = ap (λ l. last_entry e ∷ l) (entries_twice es)

  layer_twice : (x : Layer A) → on_parts g (on_parts f x) ≡ on_parts (λ v. g (f v)) x
  layer_twice (one.List items) = λ i. one.List (items_twice items i)
  layer_twice (one.Set items) = λ i. one.Set (items_twice items i)
  layer_twice (one.Map entries) = λ i. one.Map (entries_twice entries i)
  layer_twice _ = refl

-- ---- the test at one level

module _ (test : Layer Val → Bool) where
  abbrev kept : Val → Val
  kept v = (tested test v).0

  -- what one level answers
  abbrev answer : Layer (Val × Bool) → Val × Bool
  answer x = (roll-Val (whole x), test (whole x) && list_all (λ p. p.1) (parts_of x))

  whole_layer : (x : Layer Val) → Each (λ v. kept v ≡ v) (parts_of x) → whole (on_parts (tested test) x) ≡ x
  whole_layer x stay = layer_twice (λ p. p.0) (tested test) x ∙ layer_stays kept x stay

  stays : (v : Val) → kept v ≡ v
  stays = induction (λ v. kept v ≡ v) (λ v stay.
      ap (λ p. p.0) (by_level-is answer v) ∙ ap roll-Val (whole_layer (out-Val v) stay) ∙ roll-out v)

  all_stay : (vs : List Val) → Each (λ v. kept v ≡ v) vs
  all_stay [] = tt
  all_stay (v ∷ vs) = (stays v, all_stay vs)

  pub everywhere-is : (v : Val) → everywhere test v ≡ (test (out-Val v) && list_all (everywhere test) (parts_of (out-Val v)))
  everywhere-is v =
      ap (λ p. p.1) (by_level-is answer v)
      ∙ (λ i. test (whole_layer (out-Val v) (all_stay (parts_of (out-Val v))) i) && list_all (λ p. p.1) (parts_of-on_parts (tested test) (out-Val v) i))
      ∙ ap (λ b. test (out-Val v) && b) (list_all-map (λ (p : Val × Bool). p.1) (tested test) (parts_of (out-Val v)))

  pub everywhere-roll : (x : Layer Val) → everywhere test (roll-Val x) ≡ (test x && list_all (everywhere test) (parts_of x))
  everywhere-roll x = everywhere-is (roll-Val x) ∙ ap (λ y. test y && list_all (everywhere test) (parts_of y)) (out-roll x)
