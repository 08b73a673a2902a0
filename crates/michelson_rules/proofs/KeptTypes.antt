-- Types of storages: along their pairs stand big maps, and elsewhere types that may be passed.
use Rattle.std.proofs.Common.{◌≡◌, ℕ, zero, suc, Bool, true, List, [], ◌∷◌, refl, ap, sym, subst, ◌∙◌}
use Rattle.std.specs.Prelude.{◌&&◌, IsTrue, Option, Some, None}
use Rattle.std.specs.List.{AllByRecursion, slice_get}
use Rattle.value_core.specs.declared.ty.Ty.{Ty}
use Rattle.value_core.specs.declared.ty.Ty.TheOpen as ty
use Rattle.value_core.specs.declared.ty.Ty.TheOpen.{Ty-F}
use Rattle.value_core.specs.declared.ty.Ty.TheVariants as type
use Rattle.value_core.specs.declared.ty.Ty.TheViews.{out-Ty, roll-Ty}
use Rattle.value_core.specs.declared.ty.Ty.TheFolds.{fold-Ty, map-Ty}
use Rattle.value_core.specs.BigMaps.{Beside, beside_level, big_maps_of}
use Rattle.value_core.specs.Kinds.{is_passable, passable_level}
use Rattle.value_core.specs.TypeLevels.{Each, fold-at, induction, roll-out, rolls_big_map, rolls_pair, shows_big_map, shows_pair, types_in}
use Rattle.value_core.proofs.Bools.{both_true, first_true, second_true}
use Rattle.value_laws.proofs.PlaceLaws.{maps_of-big_map, maps_of-pair}
use Rattle.michelson_code.specs.WrittenTypes.{Judged, Placed, bare, has_passable_values, has_placed_big_maps, is_kept, is_kept_here, judged_level, parts_pass, passes_throughout, placed_level, values_here}
use Rattle.michelson_rules.proofs.Alls.{all_append}

abbrev placed : Ty → Placed
placed = fold-Ty Placed placed_level

-- ---- tests of each level

module _ (test : Ty-F Ty → Bool) where
  abbrev judged : Ty → Judged
  judged = fold-Ty Judged (judged_level test)

  throughout_at : (t : Ty) (y : Ty-F Ty) → out-Ty t ≡ y → passes_throughout test t ≡ (test (bare (map-Ty Ty Judged judged y)) && parts_pass (map-Ty Ty Judged judged y))
  throughout_at t y e = ap (λ (j : Judged). j.1) (fold-at (judged_level test) t y e)

  -- a type stands beside its judgment
  abbrev Stays : Ty → Type 0
  Stays t = (judged t).0 ≡ t

  stays_here : (x : Ty-F Ty) → Each Stays (types_in x) → (judged_level test (map-Ty Ty Judged judged x)).0 ≡ roll-Ty x
  stays_here (ty.Option t) h = λ i. roll-Ty (ty.Option (h.0 i))
  stays_here (ty.Or s t) h = λ i. roll-Ty (ty.Or (h.0 i) (h.1.0 i))
  stays_here (ty.Pair s t) h = λ i. roll-Ty (ty.Pair (h.0 i) (h.1.0 i))
  stays_here (ty.List t) h = λ i. roll-Ty (ty.List (h.0 i))
  stays_here (ty.Set t) h = λ i. roll-Ty (ty.Set (h.0 i))
  stays_here (ty.Map k w) h = λ i. roll-Ty (ty.Map (h.0 i) (h.1.0 i))
  stays_here (ty.BigMap k w) h = λ i. roll-Ty (ty.BigMap (h.0 i) (h.1.0 i))
  stays_here (ty.Contract t) h = λ i. roll-Ty (ty.Contract (h.0 i))
  stays_here _ h = refl

  stays : (t : Ty) → Stays t
  stays = induction Stays (λ t h. ap (λ (j : Judged). j.0) (fold-at (judged_level test) t (out-Ty t) refl) ∙ stays_here (out-Ty t) h ∙ roll-out t)

-- ---- pairs

pub kept_pair : (s u : Ty) → is_kept (type.Pair s u) ≡ true → (is_kept s ≡ true) × (is_kept u ≡ true)
kept_pair s u kept =
    let here : (is_kept s && is_kept u) ≡ true = sym (throughout_at is_kept_here (type.Pair s u) (ty.Pair s u) (shows_pair s u)) ∙ kept in
    (first_true (is_kept s) (is_kept u) here, second_true (is_kept s) (is_kept u) here)

pub placed_pair : (s u : Ty) → has_placed_big_maps (type.Pair s u) ≡ true → (has_placed_big_maps s ≡ true) × (has_placed_big_maps u ≡ true)
placed_pair s u stands =
    let here : (has_placed_big_maps s && has_placed_big_maps u) ≡ true = sym (ap (λ (p : Placed). p.0) (fold-at placed_level (type.Pair s u) (ty.Pair s u) (shows_pair s u))) ∙ stands in
    (first_true (has_placed_big_maps s) (has_placed_big_maps u) here, second_true (has_placed_big_maps s) (has_placed_big_maps u) here)

-- a type that is neither a pair nor a big map: it has no big maps on its path, and they are placed where there are none
pub record IsOther (t : Ty) : Type 0 where
  pub free : (placed t).0 ≡ (placed t).1
  pub none : big_maps_of t ≡ []

module _ (P : Ty → Type 0) (pair : (s u : Ty) → P s → P u → P (type.Pair s u)) (map : (k w : Ty) → P (type.BigMap k w)) (other : (t : Ty) → IsOther t → P t) where
  other_here : (t : Ty) (y : Ty-F Ty) → out-Ty t ≡ y → (placed_level (map-Ty Ty Placed placed y)).0 ≡ (placed_level (map-Ty Ty Placed placed y)).1 →
      (beside_level (map-Ty Ty Beside (fold-Ty Beside beside_level) y)).1 ≡ [] → P t
  other_here t y e free none = other t (record {
    free = ap (λ (p : Placed). p.0) (fold-at placed_level t y e) ∙ free ∙ sym (ap (λ (p : Placed). p.1) (fold-at placed_level t y e));
    none = ap (λ (b : Beside). b.1) (fold-at beside_level t y e) ∙ none;
  })

  at_level : (t : Ty) (y : Ty-F Ty) → out-Ty t ≡ y → Each P (types_in y) → P t
  at_level t (ty.Pair s u) e each = subst P (sym (rolls_pair t s u e)) (pair s u each.0 each.1.0)
  at_level t (ty.BigMap k w) e each = subst P (sym (rolls_big_map t k w e)) (map k w)
  at_level t (ty.Option u) e each = other_here t (ty.Option u) e refl refl
  at_level t y e each = other_here t y e refl refl

  -- what holds of pairs by their parts, of big maps and of all else holds of each type
  pub along_pairs : (t : Ty) → P t
  along_pairs = induction P (λ t each. at_level t (out-Ty t) refl each)

-- ---- types without big maps, contracts and operations

abbrev Passes : Ty → Type 0
Passes t = is_kept t ≡ true → (placed t).1 ≡ true → is_passable t ≡ true

passes_here : (y : Ty-F Ty) → Each Passes (types_in y) → (is_kept_here (bare (map-Ty Ty Judged (judged is_kept_here) y)) && parts_pass (map-Ty Ty Judged (judged is_kept_here) y)) ≡ true →
    (placed_level (map-Ty Ty Placed placed y)).1 ≡ true → passable_level (map-Ty Ty Bool is_passable y) ≡ true
passes_here (ty.Option t) each kept free = each.0 kept free
passes_here (ty.Or s t) each kept free =
    both_true _ _ (each.0 (first_true (is_kept s) _ kept) (first_true (placed s).1 _ free)) (each.1.0 (second_true (is_kept s) _ kept) (second_true (placed s).1 _ free))
passes_here (ty.Pair s t) each kept free =
    both_true _ _ (each.0 (first_true (is_kept s) _ kept) (first_true (placed s).1 _ free)) (each.1.0 (second_true (is_kept s) _ kept) (second_true (placed s).1 _ free))
passes_here (ty.List t) each kept free = each.0 kept free
passes_here (ty.Set t) each kept free = each.0 kept free
passes_here (ty.Map k w) each kept free =
    both_true _ _ (each.0 (first_true (is_kept k) _ kept) (first_true (placed k).1 _ free)) (each.1.0 (second_true (is_kept k) _ kept) (second_true (placed k).1 _ free))
passes_here (ty.BigMap k w) each kept free = absurd cc
passes_here (ty.Contract t) each kept free = absurd cc
passes_here ty.Operation each kept free = absurd cc
passes_here _ each kept free = refl

pub kept_passes : (t : Ty) → Passes t
kept_passes = induction Passes (λ t each kept free.
    fold-at passable_level t (out-Ty t) refl
    ∙ passes_here (out-Ty t) each (sym (throughout_at is_kept_here t (out-Ty t) refl) ∙ kept) (sym (ap (λ (p : Placed). p.1) (fold-at placed_level t (out-Ty t) refl)) ∙ free))

-- ---- the items of the big maps

abbrev HasPassable : Ty × Ty → Type 0
HasPassable m = IsTrue (is_passable m.1)

abbrev ItemsPass : Ty → Type 0
ItemsPass t = has_passable_values t ≡ true → AllByRecursion HasPassable (big_maps_of t)

items_of_pair : (s u : Ty) → ItemsPass s → ItemsPass u → ItemsPass (type.Pair s u)
items_of_pair s u first second passes =
    let here : (has_passable_values s && has_passable_values u) ≡ true = sym (throughout_at values_here (type.Pair s u) (ty.Pair s u) (shows_pair s u)) ∙ passes in
    subst (AllByRecursion HasPassable) (sym (maps_of-pair s u))
    (all_append HasPassable (big_maps_of s) (big_maps_of u) (first (first_true (has_passable_values s) _ here)) (second (second_true (has_passable_values s) _ here)))

items_of_big_map : (k w : Ty) → ItemsPass (type.BigMap k w)
items_of_big_map k w passes =
    let here : (is_passable (judged values_here w).0 && (has_passable_values k && has_passable_values w)) ≡ true =
    sym (throughout_at values_here (type.BigMap k w) (ty.BigMap k w) (shows_big_map k w)) ∙ passes in
    subst (AllByRecursion HasPassable) (sym (maps_of-big_map k w)) (ap is_passable (sym (stays values_here w)) ∙ first_true (is_passable (judged values_here w).0) _ here, tt)

item_of : Option (Ty × Ty) → Ty
item_of None = type.Unit
item_of (Some m) = m.1

all_at : (maps : List (Ty × Ty)) → AllByRecursion HasPassable maps → (place : ℕ) (k t : Ty) → slice_get maps place ≡ Some (k, t) → IsTrue (is_passable t)
unfolding item_of
all_at [] all place k t e = absurd cc
all_at (m ∷ maps) all zero k t e = ap is_passable (sym (ap item_of e)) ∙ all.0
all_at (m ∷ maps) all (suc n) k t e = all_at maps all.1 n k t e

-- the items of a storage's big maps may be passed
pub items_pass : (t : Ty) → has_passable_values t ≡ true → (place : ℕ) (k u : Ty) → slice_get (big_maps_of t) place ≡ Some (k, u) → IsTrue (is_passable u)
items_pass t passes = all_at (big_maps_of t) (along_pairs ItemsPass items_of_pair items_of_big_map (λ u o p. subst (AllByRecursion HasPassable) (sym o.none) tt) t passes)
