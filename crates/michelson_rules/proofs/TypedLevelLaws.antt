-- What goes by levels: has_type itself, and from one typing to another.
use Rattle.std.proofs.Common.{ℕ, Bool, List, [], ◌∷◌, refl, sym, ◌∙◌}
use Rattle.std.specs.Prelude.{IsTrue, nat_lt}
use Rattle.std.specs.List.{AllByRecursion}
use Rattle.value_core.specs.declared.ty.Ty.{Ty}
use Rattle.value_core.specs.declared.ty.Ty.TheOpen as ty
use Rattle.value_core.specs.declared.ty.Ty.TheOpen.{Ty-F}
use Rattle.value_core.specs.declared.ty.Ty.TheViews.{out-Ty}
use Rattle.value_core.specs.declared.ty.Ty.TheFolds.{map-Ty}
use Rattle.value_core.specs.declared.val.Val.{Val}
use Rattle.value_core.specs.declared.val.Val.TheOpen as is
use Rattle.value_core.specs.declared.val.Val.TheViews.{out-Val}
use Rattle.value_core.specs.Kinds.{is_passable, passable_level}
use Rattle.value_core.specs.Layer.{Layer}
use Rattle.value_core.specs.TypeLevels.{Each, fold-at, induction, types_in}
use Rattle.value_core.proofs.Bools.{first_true, second_true}
use Rattle.michelson_rules.specs.DataOperands.{HasType}
use Rattle.michelson_rules.specs.TypedLevels.{Fits, GoesByLevels}
use Rattle.michelson_rules.specs.TypedValues.{IsTypedWith, Standing, standing}
use Rattle.michelson_rules.proofs.Alls.{all_weaker}
use Rattle.michelson_rules.proofs.BelongByLevels.{BigMapIs, typed_by_levels}
use Rattle.michelson_rules.proofs.TypedAnswers.{Typing}

-- ---- from one typing to another

module _ (Has More : Val → Ty → Type 0) (HasMap MoreMap : ℕ → ℕ → Ty → Ty → Type 0) where
  -- what has the type has it in the other typing too
  abbrev pub IsKept : Ty → Type 0
  IsKept t = (v : Val) → Has v t → More v t

  -- a big map of such a type is one in the other typing too
  abbrev pub MapsKept : Ty-F Ty → Type 0
  MapsKept (ty.BigMap k w) = (place version : ℕ) → HasMap place version k w → MoreMap place version k w
  MapsKept _ = Unit {0}

  pub fits_more : (x : Layer Val) (y : Ty-F Ty) → Each IsKept (types_in y) → MapsKept y → Fits Has HasMap x y → Fits More MoreMap x y
  fits_more (is.Some part) (ty.Option t) kept maps fits = kept.0 part fits
  fits_more (is.Left part) (ty.Or s t) kept maps fits = kept.0 part fits
  fits_more (is.Right part) (ty.Or s t) kept maps fits = kept.1.0 part fits
  fits_more (is.Pair a b) (ty.Pair s t) kept maps fits = (kept.0 a fits.0, kept.1.0 b fits.1)
  fits_more (is.List items) (ty.List t) kept maps fits = (fits.0, all_weaker (λ v. Has v t) (λ v. More v t) kept.0 items fits.1)
  fits_more (is.Set items) (ty.Set t) kept maps fits = (fits.0, fits.1, all_weaker (λ v. Has v t) (λ v. More v t) kept.0 items fits.2)
  fits_more (is.Map entries) (ty.Map k w) kept maps fits =
      (fits.0, fits.1, all_weaker (λ e. Has e.0 k × Has e.1 w) (λ e. More e.0 k × More e.1 w) (λ e has. (kept.0 e.0 has.0, kept.1.0 e.1 has.1)) entries fits.2)
  fits_more (is.BigMap place version) (ty.BigMap k w) kept maps fits = maps place version fits
  fits_more x y kept maps fits = fits

  each_kept : ((t : Ty) → IsKept t) → (ts : List Ty) → Each IsKept ts
  each_kept all [] = tt
  each_kept all (t ∷ ts) = (all t, each_kept all ts)

  maps_kept : ((place version : ℕ) (k w : Ty) → HasMap place version k w → MoreMap place version k w) → (y : Ty-F Ty) → MapsKept y
  maps_kept all (ty.BigMap k w) = λ place version. all place version k w
  maps_kept all _ = tt

  pub fits_all : ((t : Ty) → IsKept t) → ((place version : ℕ) (k w : Ty) → HasMap place version k w → MoreMap place version k w) →
      (x : Layer Val) (y : Ty-F Ty) → Fits Has HasMap x y → Fits More MoreMap x y
  fits_all kept maps x y = fits_more x y (each_kept kept (types_in y)) (maps_kept maps y)

-- ---- has_type itself

-- one of the 16 places
abbrev pub IsPlaced : ℕ → ℕ → Ty → Ty → Type 0
IsPlaced place version k w = IsTrue (nat_lt place 16)

-- whatever stands in it
abbrev Anything : Standing → Type 0
Anything m = Unit {0}

all_anything : (ms : List Standing) → AllByRecursion Anything ms
all_anything [] = tt
all_anything (m ∷ ms) = (tt, all_anything ms)

with_anything : (v : Val) (t : Ty) → HasType v t → IsTypedWith Anything v t
with_anything v t has = record { typed = has; big_maps = all_anything (standing v t) }

pub has_type_by_levels : GoesByLevels HasType IsPlaced
has_type_by_levels = record {
  parts = λ v t has. fits_all (IsTypedWith Anything) HasType (BigMapIs Anything) IsPlaced (λ u w typed. typed.typed) (λ place version k w there. there.0) (out-Val v) (out-Ty t)
      ((typed_by_levels Anything).parts v t (with_anything v t has));
  whole = λ v t fits. ((typed_by_levels Anything).whole v t
      (fits_all HasType (IsTypedWith Anything) IsPlaced (BigMapIs Anything) (λ u w has. with_anything w u has) (λ place version k w there. (there, tt)) (out-Val v) (out-Ty t) fits)).typed;
}

abbrev pub plain_typing : Typing
plain_typing = record { Has = HasType; HasMap = IsPlaced; levels = has_type_by_levels; typed = λ v t has. has }

-- ---- passable types

module _ (typing : Typing) where
  abbrev PassesOver : Ty → Type 0
  PassesOver t = IsTrue (is_passable t) → (v : Val) → HasType v t → typing.Has v t

  -- the parts of a passable type are passable
  parts_pass : (y : Ty-F Ty) → IsTrue (passable_level (map-Ty Ty Bool is_passable y)) → Each PassesOver (types_in y) → Each (IsKept HasType typing.Has IsPlaced typing.HasMap) (types_in y)
  parts_pass (ty.Option t) pass each = (each.0 pass, tt)
  parts_pass (ty.Or s t) pass each = (each.0 (first_true (is_passable s) _ pass), (each.1.0 (second_true (is_passable s) _ pass), tt))
  parts_pass (ty.Pair s t) pass each = (each.0 (first_true (is_passable s) _ pass), (each.1.0 (second_true (is_passable s) _ pass), tt))
  parts_pass (ty.List t) pass each = (each.0 pass, tt)
  parts_pass (ty.Set t) pass each = (each.0 pass, tt)
  parts_pass (ty.Map k w) pass each = (each.0 (first_true (is_passable k) _ pass), (each.1.0 (second_true (is_passable k) _ pass), tt))
  parts_pass (ty.BigMap k w) pass each = absurd cc
  parts_pass (ty.Contract t) pass each = absurd cc
  parts_pass _ pass each = tt

  no_maps : (y : Ty-F Ty) → IsTrue (passable_level (map-Ty Ty Bool is_passable y)) → MapsKept HasType typing.Has IsPlaced typing.HasMap y
  no_maps (ty.BigMap k w) pass = absurd cc
  no_maps _ pass = tt

  -- a value of a passable type has it in each typing
  pub passes_over : (t : Ty) → PassesOver t
  passes_over = induction PassesOver (λ t each pass v has.
      let here : IsTrue (passable_level (map-Ty Ty Bool is_passable (out-Ty t))) = sym (fold-at passable_level t (out-Ty t) refl) ∙ pass in
      typing.levels.whole v t (fits_more HasType typing.Has IsPlaced typing.HasMap (out-Val v) (out-Ty t) (parts_pass (out-Ty t) here each) (no_maps (out-Ty t) here)
      (has_type_by_levels.parts v t has)))
