-- A param that is wrapped in the cases of a way has the type that the way begins at.
use Rattle.std.proofs.Common.{◌≡◌, Bool, true, [], ◌∷◌, Some, refl, ap, sym, ◌∙◌}
use Rattle.std.specs.Option.{option_and_then}
use Rattle.std.proofs.lemmas.Bool.{and_from, and_parts}
use Rattle.value_core.specs.declared.ty.Ty.{Ty}
use Rattle.value_core.specs.declared.ty.Ty.TheOpen as ty
use Rattle.value_core.specs.declared.ty.Ty.TheOpen.{Ty-F}
use Rattle.value_core.specs.declared.ty.Ty.TheViews.{out-Ty}
use Rattle.value_core.specs.declared.val.Val.{Val}
use Rattle.value_core.specs.declared.val.Val.TheOpen as one
use Rattle.value_core.specs.declared.val.Val.TheVariants as value
use Rattle.value_core.specs.declared.val.Val.TheVariants.{rolls-Left, rolls-Right}
use Rattle.value_core.specs.declared.val.Val.TheViews.{roll-Val}
use Rattle.value_core.specs.Layer.{Layer, on_parts}
use Rattle.value_core.specs.Sound.{is_sound, is_sound_level}
use Rattle.value_core.specs.Typed.{fits, fits_level, has_type}
use Rattle.value_core.proofs.Everywhere.{everywhere-roll}
use Rattle.value_core.proofs.Levels.{by_level-roll}
use Rattle.michelson_code.specs.declared.script.Side.{Side}
use Rattle.michelson_code.specs.declared.script.Side.TheVariants.{Left, Right}
use Rattle.michelson_code.specs.Entries.{Path, as_case, part_at, type_at, wrapped}

fits-roll : (x : Layer Val) (t : Ty) → fits (roll-Val x) t ≡ fits_level (on_parts fits x) (out-Ty t)
fits-roll x t = ap (λ f. f t) (by_level-roll {A = Ty → Bool} (λ x t. fits_level x (out-Ty t)) x)

left_has_type : (w : Val) (t s u : Ty) → out-Ty t ≡ ty.Or s u → has_type w s ≡ true → has_type (value.Left w) t ≡ true
left_has_type w t s u is h =
    let parts = and_parts (is_sound w) (fits w s) h in
    and_from _ _
    (ap is_sound (sym (rolls-Left w)) ∙ everywhere-roll is_sound_level (one.Left w) ∙ and_from _ _ parts.0 refl)
    (ap (λ v. fits v t) (sym (rolls-Left w)) ∙ fits-roll (one.Left w) t ∙ ap (fits_level (one.Left (fits w))) is ∙ parts.1)

right_has_type : (w : Val) (t s u : Ty) → out-Ty t ≡ ty.Or s u → has_type w u ≡ true → has_type (value.Right w) t ≡ true
right_has_type w t s u is h =
    let parts = and_parts (is_sound w) (fits w u) h in
    and_from _ _
    (ap is_sound (sym (rolls-Right w)) ∙ everywhere-roll is_sound_level (one.Right w) ∙ and_from _ _ parts.0 refl)
    (ap (λ v. fits v t) (sym (rolls-Right w)) ∙ fits-roll (one.Right w) t ∙ ap (fits_level (one.Right (fits w))) is ∙ parts.1)

by_case : (side : Side) (x : Ty-F Ty) (path : Path) (t s : Ty) (w : Val) → out-Ty t ≡ x →
    ((u : Ty) → type_at path u ≡ Some s → has_type w u ≡ true) →
    option_and_then (type_at path) (part_at side x) ≡ Some s → has_type (as_case side w) t ≡ true
by_case Left (ty.Or a b) path t s w is below at = left_has_type w t a b is (below a at)
by_case Right (ty.Or a b) path t s w is below at = right_has_type w t a b is (below b at)
by_case Left x path t s w is below at = cc
by_case Right x path t s w is below at = cc

pub wrapped_has_type : (path : Path) (t s : Ty) (v : Val) → type_at path t ≡ Some s → has_type v s ≡ true → has_type (wrapped path v) t ≡ true
wrapped_has_type [] t s v at typed =
    let same : t ≡ s = cc in
    ap (has_type v) same ∙ typed
wrapped_has_type (side ∷ path) t s v at typed =
    by_case side (out-Ty t) path t s (wrapped path v) refl (λ u below. wrapped_has_type path u s v below typed) at
