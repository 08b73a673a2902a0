-- Values whose types are known, at one level.
use Rattle.std.proofs.Common.{◌≡◌, true, false, ap, sym, ◌∙◌}
use Rattle.std.specs.Prelude.{IsTrue}
use Rattle.std.proofs.lemmas.Bool.{and_parts}
use Rattle.value_core.specs.declared.val.Val.{Val}
use Rattle.value_core.specs.declared.val.Val.TheViews.{out-Val, roll-Val}
use Rattle.value_core.specs.declared.ty.Ty.{Ty}
use Rattle.value_core.specs.declared.ty.Ty.TheOpen.{Ty-F}
use Rattle.value_core.specs.declared.ty.Ty.TheViews.{out-Ty}
use Rattle.value_core.specs.Layer.{Layer, on_parts}
use Rattle.value_core.specs.Sound.{is_sound}
use Rattle.value_core.specs.Typed.{fits, fits_level, has_type}
use Rattle.value_core.proofs.Levels.{roll-out}
use Rattle.value_core.proofs.TypeEquations.{fits-is}

-- the level of a value is built as that of its type
pub level_fits : (v : Val) (t : Ty) (y : Ty-F Ty) → out-Ty t ≡ y → IsTrue (has_type v t) → fits_level (on_parts fits (out-Val v)) y ≡ true
level_fits v t y shows typed = ap (fits_level (on_parts fits (out-Val v))) (sym shows) ∙ sym (fits-is v t) ∙ (and_parts (is_sound v) (fits v t) typed).1

-- a value whose level is known
pub is_rolled : (v : Val) (x : Layer Val) (w : Val) → out-Val v ≡ x → roll-Val x ≡ w → v ≡ w
is_rolled v x w shows rolls = sym (roll-out v) ∙ ap roll-Val shows ∙ rolls

-- no value is built so
pub no_fit : {A : Type 0} → false ≡ true → A
no_fit h = absurd cc
