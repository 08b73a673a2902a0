-- Whether two types are the same, level by level, tells whether they are equal.
use Rattle.std.proofs.Common.{◌≡◌, Bool, true, refl, sym, ap, ◌∙◌}
use Rattle.std.specs.Prelude.{IsTrue, ◌↔◌}
use Rattle.value_core.specs.declared.ty.Ty.{Ty}
use Rattle.value_core.specs.declared.ty.Ty.TheOpen as ty
use Rattle.value_core.specs.declared.ty.Ty.TheOpen.{Ty-F}
use Rattle.value_core.specs.declared.ty.Ty.TheViews.{out-Ty, roll-Ty}
use Rattle.value_core.specs.declared.ty.Ty.TheFolds.{fold_out-Ty, map-Ty}
use Rattle.value_core.specs.TypeLevels.{Each, induction, roll-out, types_in}
use Rattle.value_core.proofs.Bools.{both_true, first_true, second_true}
use Rattle.op_rules.specs.SameType.{is_same_type, same_level}

-- a level with what tells its parts
abbrev told : Ty-F Ty → Ty-F (Ty → Bool)
told = map-Ty Ty (Ty → Bool) is_same_type

at_level : (s t : Ty) → is_same_type s t ≡ same_level (told (out-Ty s)) (out-Ty t)
at_level s t = ap (λ (f : Ty → Bool). f t) (fold_out-Ty (Ty → Bool) (λ x u. same_level x (out-Ty u)) s)

-- ---- the same, so equal

abbrev IsKnown : Ty → Type 0
IsKnown s = (t : Ty) → is_same_type s t ≡ true → s ≡ t

level_equal : (x y : Ty-F Ty) → Each IsKnown (types_in x) → same_level (told x) y ≡ true → x ≡ y
level_equal ty.Unit ty.Unit h e = refl
level_equal ty.Bool ty.Bool h e = refl
level_equal ty.Int ty.Int h e = refl
level_equal ty.Nat ty.Nat h e = refl
level_equal ty.Mutez ty.Mutez h e = refl
level_equal ty.Time ty.Time h e = refl
level_equal ty.Text ty.Text h e = refl
level_equal ty.Bytes ty.Bytes h e = refl
level_equal ty.Addr ty.Addr h e = refl
level_equal (ty.Option p) (ty.Option t) h e = ap ty.Option (h.0 t e)
level_equal (ty.Or p q) (ty.Or s t) h e = λ i. ty.Or (h.0 s (first_true _ _ e) i) (h.1.0 t (second_true _ _ e) i)
level_equal (ty.Pair p q) (ty.Pair s t) h e = λ i. ty.Pair (h.0 s (first_true _ _ e) i) (h.1.0 t (second_true _ _ e) i)
level_equal (ty.List p) (ty.List t) h e = ap ty.List (h.0 t e)
level_equal (ty.Set p) (ty.Set t) h e = ap ty.Set (h.0 t e)
level_equal (ty.Map p q) (ty.Map s t) h e = λ i. ty.Map (h.0 s (first_true _ _ e) i) (h.1.0 t (second_true _ _ e) i)
level_equal (ty.BigMap p q) (ty.BigMap s t) h e = λ i. ty.BigMap (h.0 s (first_true _ _ e) i) (h.1.0 t (second_true _ _ e) i)
level_equal (ty.Contract p) (ty.Contract t) h e = ap ty.Contract (h.0 t e)
level_equal ty.Operation ty.Operation h e = refl
level_equal _ _ h e = absurd cc

same_equal : (s : Ty) → IsKnown s
same_equal = induction IsKnown (λ s parts t e. sym (roll-out s) ∙ ap roll-Ty (level_equal (out-Ty s) (out-Ty t) parts (sym (at_level s t) ∙ e)) ∙ roll-out t)

-- ---- equal, so the same

abbrev IsItself : Ty → Type 0
IsItself s = is_same_type s s ≡ true

level_itself : (x : Ty-F Ty) → Each IsItself (types_in x) → same_level (told x) x ≡ true
level_itself (ty.Option p) h = h.0
level_itself (ty.Or p q) h = both_true _ _ h.0 h.1.0
level_itself (ty.Pair p q) h = both_true _ _ h.0 h.1.0
level_itself (ty.List p) h = h.0
level_itself (ty.Set p) h = h.0
level_itself (ty.Map p q) h = both_true _ _ h.0 h.1.0
level_itself (ty.BigMap p q) h = both_true _ _ h.0 h.1.0
level_itself (ty.Contract p) h = h.0
level_itself _ h = refl

same_itself : (s : Ty) → IsItself s
same_itself = induction IsItself (λ s parts. at_level s s ∙ level_itself (out-Ty s) parts)

pub same_types : (s t : Ty) → IsTrue (is_same_type s t) ↔ (s ≡ t)
same_types s t = (same_equal s t, λ is. ap (is_same_type s) (sym is) ∙ same_itself s)
