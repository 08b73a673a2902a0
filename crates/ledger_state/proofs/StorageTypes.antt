-- Types of storages: keys of their big maps are comparable, values passable, and both no deeper than the storage.
use Rattle.std.proofs.Common.{◌≡◌, ℕ, zero, suc, ◌+◌, ◌<◌, ◌≤◌, max, Bool, true, false, List, [], ◌∷◌, ◌++◌, length, Some, refl, ap, sym, subst, ◌∙◌, arith}
use Rattle.std.specs.Prelude.{◌&&◌, nat_le, slice_get}
use Rattle.std.specs.List.{list_all, AllByRecursion}
use Rattle.value_core.specs.declared.val.Val.{Val}
use Rattle.value_core.specs.declared.val.Val.TheOpen as one
use Rattle.value_core.specs.declared.val.Val.TheViews.{out-Val}
use Rattle.value_core.specs.declared.ty.Ty.{Ty}
use Rattle.value_core.specs.declared.ty.Ty.TheOpen as ty
use Rattle.value_core.specs.declared.ty.Ty.TheOpen.{Ty-F}
use Rattle.value_core.specs.declared.ty.Ty.TheVariants as type
use Rattle.value_core.specs.declared.ty.Ty.TheViews.{out-Ty}
use Rattle.value_core.specs.declared.ty.Ty.TheFolds.{fold-Ty, map-Ty}
use Rattle.value_core.specs.Layer.{Layer, on_parts, parts_of, tag_of}
use Rattle.value_core.specs.BigMaps.{Beside, beside_level, big_maps_of}
use Rattle.value_core.specs.Everywhere.{everywhere}
use Rattle.value_core.specs.Kinds.{comparable_level, is_comparable, is_passable, passable_level}
use Rattle.value_core.specs.Typed.{fits, fits_level}
use Rattle.value_core.specs.Depth.{depth_of_type}
use Rattle.value_core.specs.TypeLevels.{fold-at, rolls_big_map, rolls_pair, shows_big_map, shows_pair, types_in}
use Rattle.value_core.specs.TypeLevels as types
use Rattle.value_core.proofs.Bools.{both_true, first_true, second_true}
use Rattle.value_core.proofs.Levels.{Each, induction}
use Rattle.value_core.proofs.Everywhere.{everywhere-is}
use Rattle.value_core.proofs.TypeEquations.{fits-is}
use Rattle.value_laws.proofs.PlaceLaws.{maps_of-big_map, maps_of-pair}
use Rattle.value_laws.proofs.TypeDepthEquations.{type_depth-big_map, type_depth-pair}
use Rattle.michelson_code.specs.WrittenTypes.{Judged, has_comparable_keys, has_passable_values, judged_level, keys_here, parts_pass, passes_throughout, values_here}
use Rattle.michelson_code.proofs.Throughout.{throughout-level}

-- ---- comparable types

abbrev IsPassable : Ty → Type 0
IsPassable t = is_comparable t ≡ true → is_passable t ≡ true

passable_here : (y : Ty-F Ty) → types.Each IsPassable (types_in y) → comparable_level (map-Ty Ty Bool is_comparable y) ≡ true → passable_level (map-Ty Ty Bool is_passable y) ≡ true
passable_here (ty.Option t) each h = each.0 h
passable_here (ty.Or s t) each h = both_true _ _ (each.0 (first_true (is_comparable s) _ h)) (each.1.0 (second_true (is_comparable s) _ h))
passable_here (ty.Pair s t) each h = both_true _ _ (each.0 (first_true (is_comparable s) _ h)) (each.1.0 (second_true (is_comparable s) _ h))
passable_here (ty.List t) each h = absurd cc
passable_here (ty.Set t) each h = absurd cc
passable_here (ty.Map k w) each h = absurd cc
passable_here (ty.BigMap k w) each h = absurd cc
passable_here (ty.Contract t) each h = absurd cc
passable_here ty.Operation each h = absurd cc
passable_here _ each h = refl

pub comparable_is_passable : (t : Ty) → IsPassable t
comparable_is_passable = types.induction IsPassable (λ t each h.
    fold-at passable_level t (out-Ty t) refl ∙ passable_here (out-Ty t) each (sym (fold-at comparable_level t (out-Ty t) refl) ∙ h))

-- no list, set, map or big map, contract or operation
abbrev is_low : Layer Val → Bool
is_low x = nat_le (tag_of x) 14

abbrev pub has_low_tags : Val → Bool
has_low_tags = everywhere is_low

abbrev IsLow : Val → Type 0
IsLow v = (t : Ty) → fits v t ≡ true → is_comparable t ≡ true → has_low_tags v ≡ true

low_bool : (b : Bool) → is_low (one.Bool b) ≡ true
low_bool true = refl
low_bool false = refl

low_layer : (x : Layer Val) (y : Ty-F Ty) → Each IsLow (parts_of x) → fits_level (on_parts fits x) y ≡ true → comparable_level (map-Ty Ty Bool is_comparable y) ≡ true →
    (is_low x && list_all has_low_tags (parts_of x)) ≡ true
low_layer one.Unit y h f c = refl
low_layer (one.Bool b) y h f c = both_true _ _ (low_bool b) refl
low_layer (one.Int n) y h f c = refl
low_layer (one.Nat n) y h f c = refl
low_layer (one.Mutez n) y h f c = refl
low_layer (one.Time n) y h f c = refl
low_layer (one.Text bytes) y h f c = refl
low_layer (one.Bytes bytes) y h f c = refl
low_layer (one.Addr address) y h f c = refl
low_layer one.Nothing y h f c = refl
low_layer (one.Some part) (ty.Option t) h f c = both_true _ _ (h.0 t f c) refl
low_layer (one.Left part) (ty.Or s t) h f c = both_true _ _ (h.0 s f (first_true (is_comparable s) _ c)) refl
low_layer (one.Right part) (ty.Or s t) h f c = both_true _ _ (h.0 t f (second_true (is_comparable s) _ c)) refl
low_layer (one.Pair a b) (ty.Pair s t) h f c =
    both_true _ _ (h.0 s (first_true (fits a s) _ f) (first_true (is_comparable s) _ c))
    (both_true _ _ (h.1.0 t (second_true (fits a s) _ f) (second_true (is_comparable s) _ c)) refl)
low_layer (one.List items) (ty.List t) h f c = absurd cc
low_layer (one.Set items) (ty.Set t) h f c = absurd cc
low_layer (one.Map entries) (ty.Map k w) h f c = absurd cc
low_layer (one.BigMap place version) (ty.BigMap k w) h f c = absurd cc
low_layer (one.Contract address entry) (ty.Contract t) h f c = absurd cc
low_layer (one.Operation emit) ty.Operation h f c = absurd cc
low_layer x y h f c = absurd cc

-- a value of a comparable type has no list, set, map or big map
pub comparable_is_low : (v : Val) → IsLow v
comparable_is_low = induction IsLow (λ v h t f c.
    everywhere-is is_low v
    ∙ low_layer (out-Val v) (out-Ty t) h (sym (fits-is v t) ∙ f) (sym (fold-at comparable_level t (out-Ty t) refl) ∙ c))

-- ---- the big maps of a storage

-- a big map whose key is comparable, whose value is passable, and no part of which is deeper than this
pub record IsMap (most : ℕ) (m : Ty × Ty) : Type 0 where
  pub key : is_comparable m.0 ≡ true
  pub value : is_passable m.1 ≡ true
  pub key_depth : depth_of_type m.0 ≤ most
  pub value_depth : depth_of_type m.1 ≤ most

abbrev AreMaps : ℕ → List (Ty × Ty) → Type 0
AreMaps most = AllByRecursion (IsMap most)

within_more : (m n : ℕ) (maps : List (Ty × Ty)) → m ≤ n → AreMaps m maps → AreMaps n maps
within_more m n [] le all = tt
within_more m n (x ∷ maps) le all =
    let key : depth_of_type x.0 ≤ m = all.0.key_depth in
    let value : depth_of_type x.1 ≤ m = all.0.value_depth in
    (record { key = all.0.key; value = all.0.value; key_depth = omega arith; value_depth = omega arith }, within_more m n maps le all.1)

all_append : (most : ℕ) (xs ys : List (Ty × Ty)) → AreMaps most xs → AreMaps most ys → AreMaps most (xs ++ ys)
all_append most [] ys a b = b
all_append most (x ∷ xs) ys a b = (a.0, all_append most xs ys a.1 b)

abbrev HasMaps : Ty → Type 0
HasMaps t = has_comparable_keys t ≡ true → has_passable_values t ≡ true → AreMaps (depth_of_type t) (big_maps_of t)

module _ (test : Ty-F Ty → Bool) where
  abbrev judged : Ty-F Ty → Bool
  judged y = test y && parts_pass (map-Ty Ty Judged (fold-Ty Judged (judged_level test)) y)

  judged_at : (t : Ty) (y : Ty-F Ty) → out-Ty t ≡ y → passes_throughout test t ≡ true → judged y ≡ true
  judged_at t y e h = sym (ap judged e) ∙ sym (throughout-level test t) ∙ h

maps_of_pair : (s u : Ty) → HasMaps s → HasMaps u → HasMaps (type.Pair s u)
maps_of_pair s u first second keys values =
    let k = judged_at keys_here (type.Pair s u) (ty.Pair s u) (shows_pair s u) keys in
    let w = judged_at values_here (type.Pair s u) (ty.Pair s u) (shows_pair s u) values in
    let depth : depth_of_type (type.Pair s u) ≡ 1 + max (depth_of_type s) (depth_of_type u) = type_depth-pair s u in
    subst (AreMaps (depth_of_type (type.Pair s u))) (sym (maps_of-pair s u))
    (all_append _ (big_maps_of s) (big_maps_of u)
    (within_more (depth_of_type s) _ (big_maps_of s) (omega arith) (first (first_true (has_comparable_keys s) _ k) (first_true (has_passable_values s) _ w)))
    (within_more (depth_of_type u) _ (big_maps_of u) (omega arith) (second (second_true (has_comparable_keys s) _ k) (second_true (has_passable_values s) _ w))))

maps_of_map : (k w : Ty) → HasMaps (type.BigMap k w)
maps_of_map k w keys values =
    let depth : depth_of_type (type.BigMap k w) ≡ 1 + max (depth_of_type k) (depth_of_type w) = type_depth-big_map k w in
    let map : IsMap (depth_of_type (type.BigMap k w)) (k, w) = record {
      key = first_true (is_comparable k) _ (judged_at keys_here (type.BigMap k w) (ty.BigMap k w) (shows_big_map k w) keys);
      value = first_true (is_passable w) _ (judged_at values_here (type.BigMap k w) (ty.BigMap k w) (shows_big_map k w) values);
      key_depth = omega arith;
      value_depth = omega arith;
    } in
    subst (AreMaps (depth_of_type (type.BigMap k w))) (sym (maps_of-big_map k w)) (map, tt)

no_maps_at : (t : Ty) (y : Ty-F Ty) → out-Ty t ≡ y → (beside_level (map-Ty Ty Beside (fold-Ty Beside beside_level) y)).1 ≡ [] → HasMaps t
no_maps_at t y e none keys values = subst (AreMaps (depth_of_type t)) (sym (ap (λ (b : Beside). b.1) (fold-at beside_level t y e) ∙ none)) tt

maps_at : (t : Ty) (y : Ty-F Ty) → out-Ty t ≡ y → types.Each HasMaps (types_in y) → HasMaps t
maps_at t (ty.Pair s u) e each = subst HasMaps (sym (rolls_pair t s u e)) (maps_of_pair s u each.0 each.1.0)
maps_at t (ty.BigMap k w) e each = subst HasMaps (sym (rolls_big_map t k w e)) (maps_of_map k w)
maps_at t (ty.Option u) e each = no_maps_at t (ty.Option u) e refl
maps_at t y e each = no_maps_at t y e refl

has_maps : (t : Ty) → HasMaps t
has_maps = types.induction HasMaps (λ t each. maps_at t (out-Ty t) refl each)

map_at : (most : ℕ) (maps : List (Ty × Ty)) → AreMaps most maps → (place : ℕ) (m : Ty × Ty) → slice_get maps place ≡ Some m → IsMap most m × (place < length maps)
map_at most [] all place m e = absurd cc
map_at most (x ∷ maps) all zero m e = let same : x ≡ m = cc in (subst (IsMap most) same all.0, omega arith)
map_at most (x ∷ maps) all (suc n) m e = let rest = map_at most maps all.1 n m e in let within : n < length maps = rest.1 in (rest.0, omega arith)

-- the big map at a place of a storage's type
pub storage_map : (t : Ty) → has_comparable_keys t ≡ true → has_passable_values t ≡ true → (place : ℕ) (m : Ty × Ty) → slice_get (big_maps_of t) place ≡ Some m →
    IsMap (depth_of_type t) m × (place < length (big_maps_of t))
storage_map t keys values place m e = map_at (depth_of_type t) (big_maps_of t) (has_maps t keys values) place m e
