-- Tests of each level of a type, at one level; which of them passable types pass, and that such types are passable.
use Rattle.std.proofs.Common.{◌≡◌, Bool, true, false, List, [], ◌∷◌, refl, ap, sym, ◌∙◌}
use Rattle.std.specs.Prelude.{◌&&◌}
use Rattle.std.proofs.lemmas.Bool.{and_from, and_parts}
use Rattle.value_core.specs.declared.ty.Ty.{Ty}
use Rattle.value_core.specs.declared.ty.Ty.TheOpen as ty
use Rattle.value_core.specs.declared.ty.Ty.TheOpen.{Ty-F}
use Rattle.value_core.specs.declared.ty.Ty.TheViews.{out-Ty, roll-Ty}
use Rattle.value_core.specs.declared.ty.Ty.TheFolds.{fold-Ty, fold_out-Ty, map-Ty}
use Rattle.value_core.specs.Kinds.{is_passable, passable_level}
use Rattle.value_core.specs.TypeLevels.{Each, induction, roll-out, types_in}
use Rattle.michelson_code.specs.WrittenTypes.{Judged, bare, is_free_of_big_maps, is_kept, is_kept_here, is_no_big_map_type, judged_level, parts_pass, passes_throughout}

module _ (test : Ty-F Ty → Bool) where
  abbrev pub judged : Ty → Judged
  judged = fold-Ty Judged (judged_level test)

  abbrev IsItself : Ty → Type 0
  IsItself t = (judged t).0 ≡ t

  same_parts : (x : Ty-F Ty) → Each IsItself (types_in x) → bare (map-Ty Ty Judged judged x) ≡ x
  same_parts (ty.Option t) same = ap ty.Option same.0
  same_parts (ty.Or s t) same = λ i. ty.Or (same.0 i) (same.1.0 i)
  same_parts (ty.Pair s t) same = λ i. ty.Pair (same.0 i) (same.1.0 i)
  same_parts (ty.List t) same = ap ty.List same.0
  same_parts (ty.Set t) same = ap ty.Set same.0
  same_parts (ty.Map k v) same = λ i. ty.Map (same.0 i) (same.1.0 i)
  same_parts (ty.BigMap k v) same = λ i. ty.BigMap (same.0 i) (same.1.0 i)
  same_parts (ty.Contract t) same = ap ty.Contract same.0
  same_parts ty.Unit same = refl
  same_parts _ same = refl

  judged-out : (t : Ty) → judged t ≡ judged_level test (map-Ty Ty Judged judged (out-Ty t))
  judged-out t = fold_out-Ty Judged (judged_level test) t

  itself : (t : Ty) → IsItself t
  itself = induction IsItself (λ t same.
      ap (λ (p : Judged). p.0) (judged-out t) ∙ ap roll-Ty (same_parts (out-Ty t) same) ∙ roll-out t)

  each_itself : (ts : List Ty) → Each IsItself ts
  each_itself [] = tt
  each_itself (t ∷ ts) = (itself t, each_itself ts)

  -- a type passes where its level does, and its parts
  pub throughout-level : (t : Ty) → passes_throughout test t ≡ (test (out-Ty t) && parts_pass (map-Ty Ty Judged judged (out-Ty t)))
  throughout-level t =
      ap (λ (p : Judged). p.1) (judged-out t)
      ∙ ap (λ (x : Ty-F Ty). test x && parts_pass (map-Ty Ty Judged judged (out-Ty t))) (same_parts (out-Ty t) (each_itself (types_in (out-Ty t))))

module _ (test : Ty-F Ty → Bool) where
  -- a type without parts passes where its level does
  pub passes_at : (t : Ty) (x : Ty-F Ty) → out-Ty t ≡ x → (test x && parts_pass (map-Ty Ty Judged (judged test) x)) ≡ true → passes_throughout test t ≡ true
  passes_at t x is h = throughout-level test t ∙ ap (λ (y : Ty-F Ty). test y && parts_pass (map-Ty Ty Judged (judged test) y)) is ∙ h

-- ---- passable types

-- levels that no passable type has
abbrev is_barred : Ty-F Ty → Bool
is_barred (ty.BigMap k v) = true
is_barred (ty.Contract t) = true
is_barred ty.Operation = true
is_barred _ = false

module _ (test : Ty-F Ty → Bool) (passes : (x : Ty-F Ty) → is_barred x ≡ false → test x ≡ true) where
  abbrev Passes : Ty → Type 0
  Passes t = is_passable t ≡ true → passes_throughout test t ≡ true

  abbrev Level : Ty-F Ty → Type 0
  Level x = passable_level (map-Ty Ty Bool is_passable x) ≡ true → (test x && parts_pass (map-Ty Ty Judged (judged test) x)) ≡ true

  by_level : (x : Ty-F Ty) → Each Passes (types_in x) → Level x
  by_level (ty.Option t) each h = and_from _ _ (passes (ty.Option t) refl) (each.0 h)
  by_level (ty.Or s t) each h =
      let both = and_parts _ _ h in and_from _ _ (passes (ty.Or s t) refl) (and_from _ _ (each.0 both.0) (each.1.0 both.1))
  by_level (ty.Pair s t) each h =
      let both = and_parts _ _ h in and_from _ _ (passes (ty.Pair s t) refl) (and_from _ _ (each.0 both.0) (each.1.0 both.1))
  by_level (ty.List t) each h = and_from _ _ (passes (ty.List t) refl) (each.0 h)
  by_level (ty.Set t) each h = and_from _ _ (passes (ty.Set t) refl) (each.0 h)
  by_level (ty.Map k v) each h =
      let both = and_parts _ _ h in and_from _ _ (passes (ty.Map k v) refl) (and_from _ _ (each.0 both.0) (each.1.0 both.1))
  by_level (ty.BigMap k v) each h = cc
  by_level (ty.Contract t) each h = cc
  by_level ty.Operation each h = cc
  by_level ty.Unit each h = and_from _ _ (passes ty.Unit refl) refl
  by_level ty.Bool each h = and_from _ _ (passes ty.Bool refl) refl
  by_level ty.Int each h = and_from _ _ (passes ty.Int refl) refl
  by_level ty.Nat each h = and_from _ _ (passes ty.Nat refl) refl
  by_level ty.Mutez each h = and_from _ _ (passes ty.Mutez refl) refl
  by_level ty.Time each h = and_from _ _ (passes ty.Time refl) refl
  by_level ty.Text each h = and_from _ _ (passes ty.Text refl) refl
  by_level ty.Bytes each h = and_from _ _ (passes ty.Bytes refl) refl
  by_level ty.Addr each h = and_from _ _ (passes ty.Addr refl) refl

  pub passable_passes : (t : Ty) → Passes t
  passable_passes = induction Passes (λ t each h.
      throughout-level test t ∙ by_level (out-Ty t) each (sym (fold_out-Ty Bool passable_level t) ∙ h))

kept_unbarred : (x : Ty-F Ty) → is_barred x ≡ false → is_kept_here x ≡ true
kept_unbarred (ty.BigMap k v) free = cc
kept_unbarred (ty.Contract t) free = cc
kept_unbarred ty.Operation free = cc
kept_unbarred ty.Unit free = refl
kept_unbarred _ free = refl

free_unbarred : (x : Ty-F Ty) → is_barred x ≡ false → is_no_big_map_type x ≡ true
free_unbarred (ty.BigMap k v) free = cc
free_unbarred (ty.Contract t) free = cc
free_unbarred ty.Operation free = cc
free_unbarred ty.Unit free = refl
free_unbarred _ free = refl

-- a passable type may be kept, and no big map stands in it
pub passable_is_kept : (t : Ty) → is_passable t ≡ true → is_kept t ≡ true
passable_is_kept = passable_passes is_kept_here kept_unbarred

pub passable_is_free : (t : Ty) → is_passable t ≡ true → is_free_of_big_maps t ≡ true
passable_is_free = passable_passes is_no_big_map_type free_unbarred

-- ---- and back

abbrev IsFreeAndKept : Ty → Type 0
IsFreeAndKept t = is_kept t ≡ true → is_free_of_big_maps t ≡ true → is_passable t ≡ true

passable_by : (x : Ty-F Ty) → Each IsFreeAndKept (types_in x) →
    (is_kept_here x && parts_pass (map-Ty Ty Judged (judged is_kept_here) x)) ≡ true →
    (is_no_big_map_type x && parts_pass (map-Ty Ty Judged (judged is_no_big_map_type) x)) ≡ true → passable_level (map-Ty Ty Bool is_passable x) ≡ true
passable_by (ty.Option t) each kept free = each.0 kept free
passable_by (ty.Or s t) each kept free =
    let k = and_parts _ _ kept in let f = and_parts _ _ free in and_from _ _ (each.0 k.0 f.0) (each.1.0 k.1 f.1)
passable_by (ty.Pair s t) each kept free =
    let k = and_parts _ _ kept in let f = and_parts _ _ free in and_from _ _ (each.0 k.0 f.0) (each.1.0 k.1 f.1)
passable_by (ty.List t) each kept free = each.0 kept free
passable_by (ty.Set t) each kept free = each.0 kept free
passable_by (ty.Map s t) each kept free =
    let k = and_parts _ _ kept in let f = and_parts _ _ free in and_from _ _ (each.0 k.0 f.0) (each.1.0 k.1 f.1)
passable_by (ty.BigMap s t) each kept free = cc
passable_by (ty.Contract t) each kept free = cc
passable_by ty.Operation each kept free = cc
passable_by ty.Unit each kept free = refl
passable_by _ each kept free = refl

-- a type that may be kept and in which no big map stands is passable
pub kept_is_passable : (t : Ty) → is_kept t ≡ true → is_free_of_big_maps t ≡ true → is_passable t ≡ true
kept_is_passable = induction IsFreeAndKept (λ t each kept free.
    fold_out-Ty Bool passable_level t
    ∙ passable_by (out-Ty t) each (sym (throughout-level is_kept_here t) ∙ kept) (sym (throughout-level is_no_big_map_type t) ∙ free))
