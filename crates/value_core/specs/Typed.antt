-- Which values have a type.
use Rattle.std.specs.Prelude.{Bool, true, false, ◌&&◌}
use Rattle.std.specs.List.{list_all}
use Rattle.value_core.specs.declared.val.Val.{Val}
use Rattle.value_core.specs.declared.val.Val.TheOpen as one
use Rattle.value_core.specs.declared.ty.Ty.{Ty}
use Rattle.value_core.specs.declared.ty.Ty.TheOpen as ty
use Rattle.value_core.specs.declared.ty.Ty.TheOpen.{Ty-F}
use Rattle.value_core.specs.declared.ty.Ty.TheViews.{out-Ty}
use Rattle.value_core.specs.Layer.{Layer, by_level}
use Rattle.value_core.specs.Sound.{is_sound}

-- one level of a value, whose parts say as which types they are built, against one level of a type
abbrev pub fits_level : Layer (Ty → Bool) → Ty-F Ty → Bool
fits_level one.Unit ty.Unit = true
fits_level (one.Bool b) ty.Bool = true
fits_level (one.Int n) ty.Int = true
fits_level (one.Nat n) ty.Nat = true
fits_level (one.Mutez n) ty.Mutez = true
fits_level (one.Time n) ty.Time = true
fits_level (one.Text bytes) ty.Text = true
fits_level (one.Bytes bytes) ty.Bytes = true
fits_level (one.Addr address) ty.Addr = true
fits_level one.Nothing (ty.Option t) = true
fits_level (one.Some part) (ty.Option t) = part t
fits_level (one.Left part) (ty.Or s t) = part s
fits_level (one.Right part) (ty.Or s t) = part t
fits_level (one.Pair a b) (ty.Pair s t) = a s && b t
fits_level (one.List items) (ty.List t) = list_all (λ item. item t) items
fits_level (one.Set items) (ty.Set t) = list_all (λ item. item t) items
fits_level (one.Map entries) (ty.Map k v) = list_all (λ e. e.0 k && e.1 v) entries
fits_level (one.BigMap place version) (ty.BigMap k v) = true
fits_level (one.Contract address entry) (ty.Contract t) = true
fits_level (one.Operation emit) ty.Operation = true
fits_level _ _ = false

-- built as the type is
abbrev pub fits : Val → Ty → Bool
fits = by_level {A = Ty → Bool} (λ x t. fits_level x (out-Ty t))

-- sound, and built as the type is
abbrev pub has_type : Val → Ty → Bool
has_type v t = is_sound v && fits v t
