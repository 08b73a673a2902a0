-- Values of passable types are plain, and plain values are no deeper than their types.
use Rattle.std.proofs.Common.{◌≡◌, ℕ, ◌+◌, ◌≤◌, max, Bool, true, false, List, [], ◌∷◌, map, refl, ap, sym, ◌∙◌, arith}
use Rattle.std.specs.Prelude.{◌&&◌}
use Rattle.std.specs.List.{list_all}
use Rattle.std.proofs.lemmas.Bool.{and_parts}
use Rattle.value_core.specs.declared.val.Val.{Val}
use Rattle.value_core.specs.declared.val.Val.TheOpen as one
use Rattle.value_core.specs.declared.val.Val.TheViews.{out-Val}
use Rattle.value_core.specs.declared.ty.Ty.{Ty}
use Rattle.value_core.specs.declared.ty.Ty.TheOpen as ty
use Rattle.value_core.specs.declared.ty.Ty.TheOpen.{Ty-F}
use Rattle.value_core.specs.declared.ty.Ty.TheViews.{out-Ty}
use Rattle.value_core.specs.declared.ty.Ty.TheFolds.{fold_out-Ty, map-Ty}
use Rattle.value_core.specs.Layer.{Layer, flat, on_parts, parts_of}
use Rattle.value_core.specs.Everywhere.{everywhere}
use Rattle.value_core.specs.Kinds.{is_passable, passable_level}
use Rattle.value_core.specs.Sound.{is_plain, is_settled_level, is_sound_level}
use Rattle.value_core.specs.Typed.{fits, fits_level, has_type}
use Rattle.value_core.specs.Depth.{depth_of, depth_of_type, greatest, level_depth}
use Rattle.value_core.proofs.Bools.{both_true}
use Rattle.value_core.proofs.Levels.{Each, by_level-is, induction, parts_of-on_parts}
use Rattle.value_core.proofs.Everywhere.{everywhere-is}
use Rattle.value_core.proofs.TypeEquations.{fits-is}

-- ---- tests of every level, one beside another

module _ (p q r : Layer Val → Bool) (joins : (x : Layer Val) → p x ≡ true → q x ≡ true → r x ≡ true) where
  abbrev Joins : Val → Type 0
  Joins v = everywhere p v ≡ true → everywhere q v ≡ true → everywhere r v ≡ true

  all_join : (vs : List Val) → Each Joins vs → list_all (everywhere p) vs ≡ true → list_all (everywhere q) vs ≡ true → list_all (everywhere r) vs ≡ true
  all_join [] h a b = refl
  all_join (v ∷ vs) h a b =
      let first = and_parts _ _ a in
      let second = and_parts _ _ b in
      both_true _ _ (h.0 first.0 second.0) (all_join vs h.1 first.1 second.1)

  -- what two tests give at each level they give everywhere
  pub everywhere-joins : (v : Val) → Joins v
  everywhere-joins = induction Joins (λ v h a b.
      let first = and_parts _ _ (sym (everywhere-is p v) ∙ a) in
      let second = and_parts _ _ (sym (everywhere-is q v) ∙ b) in
      everywhere-is r v ∙ both_true _ _ (joins (out-Val v) first.0 second.0) (all_join (parts_of (out-Val v)) h first.1 second.1))

-- ---- values of passable types

abbrev settled : Val → Bool
settled = everywhere is_settled_level

abbrev IsSettled : Val → Type 0
IsSettled v = (t : Ty) → fits v t ≡ true → is_passable t ≡ true → settled v ≡ true

module _ (t : Ty) (passable : is_passable t ≡ true) where
  settled_items : (vs : List Val) → Each IsSettled vs → list_all (λ f. f t) (map fits vs) ≡ true → list_all settled vs ≡ true
  settled_items [] h f = refl
  settled_items (v ∷ vs) h f =
      let fit = and_parts _ _ f in
      both_true _ _ (h.0 t fit.0 passable) (settled_items vs h.1 fit.1)

abbrev both : Val × Val → (Ty → Bool) × (Ty → Bool)
both e = (fits e.0, fits e.1)

module _ (k v : Ty) (keys : is_passable k ≡ true) (values : is_passable v ≡ true) where
  settled_entries : (es : List (Val × Val)) → Each IsSettled (flat es) → list_all (λ e. e.0 k && e.1 v) (map both es) ≡ true → list_all settled (flat es) ≡ true
  settled_entries [] h f = refl
  settled_entries (e ∷ es) h f =
      let fit = and_parts _ _ f in
      let part = and_parts _ _ fit.0 in
      both_true _ _ (h.0 k part.0 keys) (both_true _ _ (h.1.0 v part.1 values) (settled_entries es h.1.1 fit.1))

abbrev level_settled : Layer Val → Bool
level_settled x = is_settled_level x && list_all settled (parts_of x)

settled_layer : (x : Layer Val) (y : Ty-F Ty) → Each IsSettled (parts_of x) → fits_level (on_parts fits x) y ≡ true →
    passable_level (map-Ty Ty Bool is_passable y) ≡ true → level_settled x ≡ true
settled_layer one.Unit y h f p = refl
settled_layer (one.Bool b) y h f p = refl
settled_layer (one.Int n) y h f p = refl
settled_layer (one.Nat n) y h f p = refl
settled_layer (one.Mutez n) y h f p = refl
settled_layer (one.Time n) y h f p = refl
settled_layer (one.Text bytes) y h f p = refl
settled_layer (one.Bytes bytes) y h f p = refl
settled_layer (one.Addr address) y h f p = refl
settled_layer one.Nothing y h f p = refl
settled_layer (one.Some part) (ty.Option t) h f p = both_true _ _ (h.0 t f p) refl
settled_layer (one.Left part) (ty.Or s t) h f p = both_true _ _ (h.0 s f (and_parts _ _ p).0) refl
settled_layer (one.Right part) (ty.Or s t) h f p = both_true _ _ (h.0 t f (and_parts _ _ p).1) refl
settled_layer (one.Pair a b) (ty.Pair s t) h f p =
    let fit = and_parts _ _ f in
    let passable = and_parts _ _ p in
    both_true _ _ (h.0 s fit.0 passable.0) (both_true _ _ (h.1.0 t fit.1 passable.1) refl)
settled_layer (one.List items) (ty.List t) h f p = settled_items t p items h f
settled_layer (one.Set items) (ty.Set t) h f p = settled_items t p items h f
settled_layer (one.Map entries) (ty.Map k v) h f p = settled_entries k v (and_parts _ _ p).0 (and_parts _ _ p).1 entries h f
settled_layer (one.BigMap place version) (ty.BigMap k v) h f p = cc
settled_layer (one.Contract address entry) (ty.Contract t) h f p = cc
settled_layer (one.Operation emit) ty.Operation h f p = cc
settled_layer x y h f p = cc

pub passable_is_settled : (v : Val) → IsSettled v
passable_is_settled = induction IsSettled (λ v h t f p.
    everywhere-is is_settled_level v
    ∙ settled_layer (out-Val v) (out-Ty t) h (sym (fits-is v t) ∙ f) (sym (fold_out-Ty Bool passable_level t) ∙ p))

pub passable_is_plain : (v : Val) (t : Ty) → has_type v t ≡ true → is_passable t ≡ true → is_plain v ≡ true
passable_is_plain v t typed passable =
    let both = and_parts _ _ typed in
    everywhere-joins is_sound_level is_settled_level (λ x. is_sound_level x && is_settled_level x) (λ x p q. both_true _ _ p q)
    v both.0 (passable_is_settled v t both.1 passable)

-- ---- how deep values are

abbrev IsWithin : Val → Type 0
IsWithin v = (t : Ty) → fits v t ≡ true → settled v ≡ true → depth_of v ≤ depth_of_type t

module _ (t : Ty) where
  items_within : (vs : List Val) → Each IsWithin vs → list_all (λ f. f t) (map fits vs) ≡ true → list_all settled vs ≡ true → greatest (map depth_of vs) ≤ depth_of_type t
  items_within [] h f s = omega arith
  items_within (v ∷ vs) h f s =
      let fit = and_parts _ _ f in
      let still = and_parts _ _ s in
      let first : depth_of v ≤ depth_of_type t = h.0 t fit.0 still.0 in
      let rest : greatest (map depth_of vs) ≤ depth_of_type t = items_within vs h.1 fit.1 still.1 in
      omega arith

module _ (k v : Ty) where
  entries_within : (es : List (Val × Val)) → Each IsWithin (flat es) → list_all (λ e. e.0 k && e.1 v) (map both es) ≡ true → list_all settled (flat es) ≡ true →
      greatest (map depth_of (flat es)) ≤ max (depth_of_type k) (depth_of_type v)
  entries_within [] h f s = omega arith
  entries_within (e ∷ es) h f s =
      let fit = and_parts _ _ f in
      let part = and_parts _ _ fit.0 in
      let still = and_parts _ _ s in
      let value_still = and_parts _ _ still.1 in
      let key : depth_of e.0 ≤ depth_of_type k = h.0 k part.0 still.0 in
      let value : depth_of e.1 ≤ depth_of_type v = h.1.0 v part.1 value_still.0 in
      let rest : greatest (map depth_of (flat es)) ≤ max (depth_of_type k) (depth_of_type v) = entries_within es h.1.1 fit.1 value_still.1 in
      omega arith

abbrev type_level : Ty-F Ty → ℕ
type_level y = level_depth (map-Ty Ty ℕ depth_of_type y)

one_deep : (y : Ty-F Ty) → 1 ≤ type_level y
one_deep ty.Unit = omega arith
one_deep _ = omega arith

layer_within : (x : Layer Val) (y : Ty-F Ty) → Each IsWithin (parts_of x) → fits_level (on_parts fits x) y ≡ true → level_settled x ≡ true →
    1 + greatest (map depth_of (parts_of x)) ≤ type_level y
layer_within one.Unit y h f s = one_deep y
layer_within (one.Bool b) y h f s = one_deep y
layer_within (one.Int n) y h f s = one_deep y
layer_within (one.Nat n) y h f s = one_deep y
layer_within (one.Mutez n) y h f s = one_deep y
layer_within (one.Time n) y h f s = one_deep y
layer_within (one.Text bytes) y h f s = one_deep y
layer_within (one.Bytes bytes) y h f s = one_deep y
layer_within (one.Addr address) y h f s = one_deep y
layer_within one.Nothing y h f s = one_deep y
layer_within (one.BigMap place version) y h f s = one_deep y
layer_within (one.Contract address entry) y h f s = one_deep y
layer_within (one.Operation emit) y h f s = cc
layer_within (one.Some part) (ty.Option t) h f s = deeper part t (h.0 t f (and_parts _ _ s).0)
  where
    deeper : (v : Val) (t : Ty) → depth_of v ≤ depth_of_type t → 1 + max (depth_of v) 0 ≤ 1 + depth_of_type t
    deeper v t le = omega arith
layer_within (one.Left part) (ty.Or s t) h f still =
    let le : depth_of part ≤ depth_of_type s = h.0 s f (and_parts _ _ still).0 in omega arith
layer_within (one.Right part) (ty.Or s t) h f still =
    let le : depth_of part ≤ depth_of_type t = h.0 t f (and_parts _ _ still).0 in omega arith
layer_within (one.Pair a b) (ty.Pair s t) h f still =
    let fit = and_parts _ _ f in
    let first_still = and_parts _ _ still in
    let first : depth_of a ≤ depth_of_type s = h.0 s fit.0 first_still.0 in
    let second : depth_of b ≤ depth_of_type t = h.1.0 t fit.1 (and_parts _ _ first_still.1).0 in
    omega arith
layer_within (one.List items) (ty.List t) h f s =
    let le : greatest (map depth_of items) ≤ depth_of_type t = items_within t items h f s in omega arith
layer_within (one.Set items) (ty.Set t) h f s =
    let le : greatest (map depth_of items) ≤ depth_of_type t = items_within t items h f s in omega arith
layer_within (one.Map entries) (ty.Map k v) h f s =
    let le : greatest (map depth_of (flat entries)) ≤ max (depth_of_type k) (depth_of_type v) = entries_within k v entries h f s in omega arith
layer_within x y h f s = absurd (let no : false ≡ true = f in cc)

depth_of-is : (v : Val) → depth_of v ≡ 1 + greatest (map depth_of (parts_of (out-Val v)))
depth_of-is v = by_level-is {A = ℕ} (λ x. 1 + greatest (parts_of x)) v ∙ ap (λ ns. 1 + greatest ns) (parts_of-on_parts depth_of (out-Val v))

pub settled_within : (v : Val) → IsWithin v
settled_within = induction IsWithin (λ v h t f s.
    let le : 1 + greatest (map depth_of (parts_of (out-Val v))) ≤ type_level (out-Ty t) =
    layer_within (out-Val v) (out-Ty t) h (sym (fits-is v t) ∙ f) (sym (everywhere-is is_settled_level v) ∙ s) in
    let value : depth_of v ≡ 1 + greatest (map depth_of (parts_of (out-Val v))) = depth_of-is v in
    let type : depth_of_type t ≡ type_level (out-Ty t) = fold_out-Ty ℕ level_depth t in
    omega arith)

second_holds : (x : Layer Val) → (is_sound_level x && is_settled_level x) ≡ true → is_settled_level x ≡ true
second_holds x both = (and_parts _ _ both).1

pub plain_within : (v : Val) (t : Ty) → is_plain v ≡ true → fits v t ≡ true → depth_of v ≤ depth_of_type t
plain_within v t plain fit =
    settled_within v t fit (everywhere-joins (λ x. is_sound_level x && is_settled_level x) (λ x. is_sound_level x && is_settled_level x) is_settled_level
    (λ x p q. second_holds x p) v plain plain)
