-- Values of passable types are data: no big map, no contract and no operation stands in them.
use Rattle.std.proofs.Common.{◌≡◌, Bool, true, List, [], ◌∷◌, map, refl, sym, ◌∙◌}
use Rattle.std.specs.Prelude.{◌&&◌}
use Rattle.std.specs.List.{list_all}
use Rattle.std.proofs.lemmas.Bool.{and_from, and_parts}
use Rattle.value_core.specs.declared.val.Val.{Val}
use Rattle.value_core.specs.declared.val.Val.TheOpen as one
use Rattle.value_core.specs.declared.val.Val.TheViews.{out-Val}
use Rattle.value_core.specs.declared.ty.Ty.{Ty}
use Rattle.value_core.specs.declared.ty.Ty.TheOpen as ty
use Rattle.value_core.specs.declared.ty.Ty.TheOpen.{Ty-F}
use Rattle.value_core.specs.declared.ty.Ty.TheViews.{out-Ty}
use Rattle.value_core.specs.declared.ty.Ty.TheFolds.{fold_out-Ty, map-Ty}
use Rattle.value_core.specs.Layer.{Layer, flat, on_parts, parts_of}
use Rattle.value_core.specs.Kinds.{is_passable, passable_level}
use Rattle.value_core.specs.Typed.{fits, fits_level, has_type}
use Rattle.value_core.proofs.Levels.{Each, induction}
use Rattle.value_core.proofs.Everywhere.{everywhere-is}
use Rattle.data_nodes.proofs.DataLevels.{is_data, is_data_level}
use Rattle.data_nodes.proofs.DataLaws.{fits-is}

abbrev IsDataAt : Val → Type 0
IsDataAt v = (t : Ty) → fits v t ≡ true → is_passable t ≡ true → is_data v ≡ true

module _ (t : Ty) (passable : is_passable t ≡ true) where
  items_are : (vs : List Val) → Each IsDataAt vs → list_all (λ f. f t) (map fits vs) ≡ true → list_all is_data vs ≡ true
  items_are [] h f = refl
  items_are (v ∷ vs) h f =
      let fit = and_parts _ _ f in
      and_from _ _ (h.0 t fit.0 passable) (items_are vs h.1 fit.1)

abbrev fits_both : Val × Val → (Ty → Bool) × (Ty → Bool)
fits_both e = (fits e.0, fits e.1)

module _ (k v : Ty) (keys : is_passable k ≡ true) (values : is_passable v ≡ true) where
  entries_are : (es : List (Val × Val)) → Each IsDataAt (flat es) → list_all (λ e. e.0 k && e.1 v) (map fits_both es) ≡ true → list_all is_data (flat es) ≡ true
  entries_are [] h f = refl
  entries_are (e ∷ es) h f =
      let fit = and_parts _ _ f in
      let part = and_parts _ _ fit.0 in
      and_from _ _ (h.0 k part.0 keys) (and_from _ _ (h.1.0 v part.1 values) (entries_are es h.1.1 fit.1))

abbrev level_is_data : Layer Val → Bool
level_is_data x = is_data_level x && list_all is_data (parts_of x)

level_is : (x : Layer Val) (y : Ty-F Ty) → Each IsDataAt (parts_of x) → fits_level (on_parts fits x) y ≡ true → passable_level (map-Ty Ty Bool is_passable y) ≡ true → level_is_data x ≡ true
level_is one.Unit y h f p = refl
level_is (one.Bool b) y h f p = refl
level_is (one.Int n) y h f p = refl
level_is (one.Nat n) y h f p = refl
level_is (one.Mutez n) y h f p = refl
level_is (one.Time n) y h f p = refl
level_is (one.Text bytes) y h f p = refl
level_is (one.Bytes bytes) y h f p = refl
level_is (one.Addr address) y h f p = refl
level_is one.Nothing y h f p = refl
level_is (one.Some part) (ty.Option t) h f p = and_from _ _ (h.0 t f p) refl
level_is (one.Left part) (ty.Or s t) h f p = and_from _ _ (h.0 s f (and_parts _ _ p).0) refl
level_is (one.Right part) (ty.Or s t) h f p = and_from _ _ (h.0 t f (and_parts _ _ p).1) refl
level_is (one.Pair a b) (ty.Pair s t) h f p =
    let fit = and_parts _ _ f in
    let passable = and_parts _ _ p in
    and_from _ _ (h.0 s fit.0 passable.0) (and_from _ _ (h.1.0 t fit.1 passable.1) refl)
level_is (one.List items) (ty.List t) h f p = items_are t p items h f
level_is (one.Set items) (ty.Set t) h f p = items_are t p items h f
level_is (one.Map entries) (ty.Map k v) h f p = entries_are k v (and_parts _ _ p).0 (and_parts _ _ p).1 entries h f
level_is (one.BigMap place version) (ty.BigMap k v) h f p = cc
level_is (one.Contract address entry) (ty.Contract t) h f p = cc
level_is (one.Operation emit) ty.Operation h f p = cc
level_is x y h f p = cc

fitting_is_data : (v : Val) → IsDataAt v
fitting_is_data = induction IsDataAt (λ v h t f p.
    everywhere-is is_data_level v ∙ level_is (out-Val v) (out-Ty t) h (sym (fits-is v t) ∙ f) (sym (fold_out-Ty Bool passable_level t) ∙ p))

-- a value of a passable type is data
pub passable_is_data : (v : Val) (t : Ty) → has_type v t ≡ true → is_passable t ≡ true → is_data v ≡ true
passable_is_data v t typed passable = fitting_is_data v t (and_parts _ _ typed).1 passable
