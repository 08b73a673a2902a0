-- Values without big maps, by what they hold; and types with some, at pairs, at big maps and elsewhere.
use Rattle.std.proofs.Common.{◌≡◌, ℕ, ◌+◌, Bool, true, false, List, [], refl, ap, sym, ◌∙◌, arith}
use Rattle.std.specs.Prelude.{◌&&◌, ◌==◌, if◌then◌else◌, Some, None, option_and_then}
use Rattle.std.specs.List.{list_all}
use Rattle.value_core.specs.declared.val.Val.{Val}
use Rattle.value_core.specs.declared.val.Emit.{Emit}
use Rattle.value_core.specs.declared.val.Val.TheVariants as value
use Rattle.value_core.specs.declared.val.Val.TheOpen as one
use Rattle.value_core.specs.declared.val.Val.TheViews.{out-Val, roll-Val}
use Rattle.value_core.specs.declared.ty.Ty.{Ty}
use Rattle.value_core.specs.declared.ty.Ty.TheVariants as kind
use Rattle.value_core.specs.declared.ty.Ty.TheOpen as ty
use Rattle.value_core.specs.declared.ty.Ty.TheOpen.{Ty-F}
use Rattle.value_core.specs.declared.ty.Ty.TheViews.{out-Ty}
use Rattle.value_core.specs.declared.ty.Ty.TheFolds.{fold-Ty, map-Ty}
use Rattle.value_core.specs.Layer.{Layer, flat}
use Rattle.value_core.specs.BigMaps.{Beside, Placing, beside_level, big_maps_here, big_maps_of, has_no_big_map, is_at_place, is_no_big_map, is_placed_pair, place_behind, placing, placing_level}
use Rattle.value_core.specs.TypeLevels.{fold-at, rolls_big_map, rolls_pair, shows_big_map, shows_pair}
use Rattle.value_core.proofs.Bools.{and_true}
use Rattle.value_core.proofs.Levels.{out-roll, roll-out}
use Rattle.value_core.proofs.Everywhere.{everywhere-roll}

-- ---- values

pub no_big_map-list : (vs : List Val) → has_no_big_map (value.List vs) ≡ list_all has_no_big_map vs
no_big_map-list vs = ap has_no_big_map (sym (value.rolls-List vs)) ∙ everywhere-roll is_no_big_map (one.List vs)

pub no_big_map-set : (vs : List Val) → has_no_big_map (value.Set vs) ≡ list_all has_no_big_map vs
no_big_map-set vs = ap has_no_big_map (sym (value.rolls-Set vs)) ∙ everywhere-roll is_no_big_map (one.Set vs)

pub no_big_map-map : (es : List (Val × Val)) → has_no_big_map (value.Map es) ≡ list_all has_no_big_map (flat es)
no_big_map-map es = ap has_no_big_map (sym (value.rolls-Map es)) ∙ everywhere-roll is_no_big_map (one.Map es)

pub no_big_map-operation : (emit : Emit) → has_no_big_map (value.Operation emit) ≡ has_no_big_map emit.param
no_big_map-operation emit = ap has_no_big_map (sym (value.rolls-Operation emit)) ∙ everywhere-roll is_no_big_map (one.Operation emit) ∙ and_true _

pub ruleset no_big_map_parts = (no_big_map-list, no_big_map-set, no_big_map-map, no_big_map-operation)

-- ---- types

no_maps_here : (x : Ty-F Ty) → ((s u : Ty) → x ≡ ty.Pair s u → ⊥) → ((k w : Ty) → x ≡ ty.BigMap k w → ⊥) →
    big_maps_here (map-Ty Ty Beside (fold-Ty Beside beside_level) x) ≡ []
no_maps_here (ty.Pair s u) pair map = absurd (pair s u refl)
no_maps_here (ty.BigMap k w) pair map = absurd (map k w refl)
no_maps_here _ pair map = refl

pub no_maps : (t : Ty) → ((s u : Ty) → t ≡ kind.Pair s u → ⊥) → ((k w : Ty) → t ≡ kind.BigMap k w → ⊥) → big_maps_of t ≡ []
no_maps t pair map =
    ap (λ (b : Beside). b.1) (fold-at beside_level t (out-Ty t) refl)
    ∙ no_maps_here (out-Ty t) (λ s u e. pair s u (rolls_pair t s u e)) (λ k w e. map k w (rolls_big_map t k w e))

-- ---- places

shown_pair : (v a b : Val) → v ≡ value.Pair a b → out-Val v ≡ one.Pair a b
shown_pair v a b e = ap out-Val (e ∙ sym (value.rolls-Pair a b)) ∙ out-roll (one.Pair a b)

shown_big_map : (v : Val) (place version : ℕ) → v ≡ value.BigMap place version → out-Val v ≡ one.BigMap place version
shown_big_map v place version e = ap out-Val (e ∙ sym (value.rolls-BigMap place version)) ∙ out-roll (one.BigMap place version)

placing-pair : (t s u : Ty) → t ≡ kind.Pair s u → placing t ≡ placing_level (ty.Pair (placing s) (placing u))
placing-pair t s u e = fold-at placing_level t (ty.Pair s u) (ap out-Ty e ∙ shows_pair s u)

placing-map : (t k w : Ty) → t ≡ kind.BigMap k w → placing t ≡ placing_level (ty.BigMap (placing k) (placing w))
placing-map t k w e = fold-at placing_level t (ty.BigMap k w) (ap out-Ty e ∙ shows_big_map k w)

both_placed : (x y : Bool) (first m n : ℕ) → (if x && y then Some (first + (m + n)) else None) ≡ option_and_then (λ next. if y then Some (next + n) else None) (if x then Some (first + m) else None)
both_placed true true first m n = ap (λ k. Some k) (omega arith)
both_placed true false first m n = refl
both_placed false y first m n = refl

-- one place after another, by whether what is told of it holds
after_place : (p q : Placing) (first : ℕ) (a b : Val) →
    (if p.1 first a && q.1 (first + p.0) b then Some (first + (p.0 + q.0)) else None) ≡ option_and_then (λ next. place_behind q next b) (place_behind p first a)
after_place p q first a b = elim (p.1 first a) as (λ x.
    (if x && q.1 (first + p.0) b then Some (first + (p.0 + q.0)) else None) ≡ option_and_then (λ next. place_behind q next b) (if x then Some (first + p.0) else None)) [
      | true ↦ ap (λ k. if q.1 (first + p.0) b then Some k else None) (let sum : first + (p.0 + q.0) ≡ (first + p.0) + q.0 = omega arith in sum)
      | false ↦ refl
    ]

pub placed-pair : (t s u : Ty) (first : ℕ) (v a b : Val) → t ≡ kind.Pair s u → v ≡ value.Pair a b →
    place_behind (placing t) first v ≡ option_and_then (λ next. place_behind (placing u) next b) (place_behind (placing s) first a)
placed-pair t s u first v a b is is_pair =
    ap (λ (p : Placing). place_behind p first v) (placing-pair t s u is)
    ∙ ap (λ (x : Layer Val). if is_placed_pair (placing s) (placing u) first x then Some (first + ((placing s).0 + (placing u).0)) else None) (shown_pair v a b is_pair)
    ∙ after_place (placing s) (placing u) first a b

pub placed-map : (t k w : Ty) (first : ℕ) (v : Val) (place version : ℕ) → t ≡ kind.BigMap k w → v ≡ value.BigMap place version →
    place_behind (placing t) first v ≡ (if place == first then Some (first + 1) else None)
placed-map t k w first v place version is is_map =
    ap (λ (p : Placing). place_behind p first v) (placing-map t k w is)
    ∙ ap (λ (x : Layer Val). if is_at_place first x then Some (first + 1) else None) (shown_big_map v place version is_map)

no_pair_level : (s u : Placing) (first : ℕ) (x : Layer Val) → ((a b : Val) → x ≡ one.Pair a b → ⊥) → is_placed_pair s u first x ≡ false
no_pair_level s u first (one.Pair a b) other = absurd (other a b refl)
no_pair_level s u first _ other = refl

pub unplaced-pair : (t s u : Ty) (first : ℕ) (v : Val) → t ≡ kind.Pair s u → ((a b : Val) → v ≡ value.Pair a b → ⊥) → place_behind (placing t) first v ≡ None
unplaced-pair t s u first v is other =
    ap (λ (p : Placing). place_behind p first v) (placing-pair t s u is)
    ∙ ap (λ (x : Bool). if x then Some (first + ((placing s).0 + (placing u).0)) else None)
    (no_pair_level (placing s) (placing u) first (out-Val v) (λ a b e. other a b (sym (roll-out v) ∙ ap roll-Val e ∙ value.rolls-Pair a b)))

no_map_level : (first : ℕ) (x : Layer Val) → ((place version : ℕ) → x ≡ one.BigMap place version → ⊥) → is_at_place first x ≡ false
no_map_level first (one.BigMap place version) other = absurd (other place version refl)
no_map_level first _ other = refl

pub unplaced-map : (t k w : Ty) (first : ℕ) (v : Val) → t ≡ kind.BigMap k w → ((place version : ℕ) → v ≡ value.BigMap place version → ⊥) → place_behind (placing t) first v ≡ None
unplaced-map t k w first v is other =
    ap (λ (p : Placing). place_behind p first v) (placing-map t k w is)
    ∙ ap (λ (x : Bool). if x then Some (first + 1) else None)
    (no_map_level first (out-Val v) (λ place version e. other place version (sym (roll-out v) ∙ ap roll-Val e ∙ value.rolls-BigMap place version)))

placing_none : (x : Ty-F Ty) → ((s u : Ty) → x ≡ ty.Pair s u → ⊥) → ((k w : Ty) → x ≡ ty.BigMap k w → ⊥) → placing_level (map-Ty Ty Placing placing x) ≡ (0, λ first v. true)
placing_none (ty.Pair s u) pair map = absurd (pair s u refl)
placing_none (ty.BigMap k w) pair map = absurd (map k w refl)
placing_none _ pair map = refl

pub placed-other : (t : Ty) (first : ℕ) (v : Val) → ((s u : Ty) → t ≡ kind.Pair s u → ⊥) → ((k w : Ty) → t ≡ kind.BigMap k w → ⊥) → place_behind (placing t) first v ≡ Some first
placed-other t first v pair map =
    ap (λ (p : Placing). place_behind p first v)
    (fold-at placing_level t (out-Ty t) refl ∙ placing_none (out-Ty t) (λ s u e. pair s u (rolls_pair t s u e)) (λ k w e. map k w (rolls_big_map t k w e)))
    ∙ ap (λ k. Some k) (let same : first + 0 ≡ first = omega arith in same)
