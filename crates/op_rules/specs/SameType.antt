-- Whether two types are the same, as a test.
use Rattle.std.specs.Prelude.{Bool, true, false, ◌&&◌}
use Rattle.value_core.specs.declared.ty.Ty.{Ty}
use Rattle.value_core.specs.declared.ty.Ty.TheOpen as ty
use Rattle.value_core.specs.declared.ty.Ty.TheOpen.{Ty-F}
use Rattle.value_core.specs.declared.ty.Ty.TheViews.{out-Ty}
use Rattle.value_core.specs.declared.ty.Ty.TheFolds.{fold-Ty}

-- one level of a type, whose parts say which types they are, against one level of another
abbrev pub same_level : Ty-F (Ty → Bool) → Ty-F Ty → Bool
same_level ty.Unit ty.Unit = true
same_level ty.Bool ty.Bool = true
same_level ty.Int ty.Int = true
same_level ty.Nat ty.Nat = true
same_level ty.Mutez ty.Mutez = true
same_level ty.Time ty.Time = true
same_level ty.Text ty.Text = true
same_level ty.Bytes ty.Bytes = true
same_level ty.Addr ty.Addr = true
same_level (ty.Option p) (ty.Option t) = p t
same_level (ty.Or p q) (ty.Or s t) = p s && q t
same_level (ty.Pair p q) (ty.Pair s t) = p s && q t
same_level (ty.List p) (ty.List t) = p t
same_level (ty.Set p) (ty.Set t) = p t
same_level (ty.Map p q) (ty.Map s t) = p s && q t
same_level (ty.BigMap p q) (ty.BigMap s t) = p s && q t
same_level (ty.Contract p) (ty.Contract t) = p t
same_level ty.Operation ty.Operation = true
same_level _ _ = false

-- the same at each level
abbrev pub is_same_type : Ty → Ty → Bool
is_same_type = fold-Ty (Ty → Bool) (λ x t. same_level x (out-Ty t))
