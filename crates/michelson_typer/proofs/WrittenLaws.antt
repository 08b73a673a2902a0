-- Types as they are written, by their one level.
use Rattle.std.proofs.Common.{◌≡◌, ◌<◌, Bool, inl, inr, refl, ap, sym, ◌∙◌, rules}
use Rattle.std.specs.Prelude.{◌&&◌, ◌⊎◌}
use Rattle.value_core.specs.declared.ty.Ty.{Ty, size-Ty}
use Rattle.value_core.specs.declared.ty.Ty.TheVariants as type
use Rattle.value_core.specs.declared.ty.Ty.TheOpen as ty
use Rattle.value_core.specs.declared.ty.Ty.TheOpen.{Ty-F}
use Rattle.value_core.specs.declared.ty.Ty.TheViews.{out-Ty, the_lemmas}
use Rattle.value_core.specs.declared.ty.Ty.TheFolds.{fold-Ty, map-Ty}
use Rattle.value_core.specs.Kinds.{is_comparable, is_passable}
use Rattle.value_core.specs.TypeLevels.{Each, fold-at, induction, rolls_big_map, rolls_pair, types_in}
use Rattle.michelson_code.specs.declared.operands.Level.{Level}
use Rattle.michelson_code.specs.declared.operands.Level.TheVariants as level
use Rattle.michelson_code.specs.Typing.{level_type}
use Rattle.michelson_code.specs.WrittenTypes.{Judged, Placed, has_comparable_keys, has_passable_values, has_placed_big_maps, is_free_of_big_maps, is_no_big_map_type, keys_here, parts_pass, passes_throughout, placed_level, values_here}
use Rattle.michelson_code.proofs.Throughout.{judged, throughout-level}
use Rattle.michelson_code.proofs.Types.{level_shown, shows}

abbrev itself : Ty → Ty
itself t = t

module _ (test : Ty-F Ty → Bool) where
  -- a type passes where its level does, and its parts
  throughout-shown : (l : Level Ty) →
      passes_throughout test (level_type itself l) ≡ (test (level_shown itself l) && parts_pass (map-Ty Ty Judged (judged test) (level_shown itself l)))
  throughout-shown l =
      throughout-level test (level_type itself l) ∙ ap (λ (y : Ty-F Ty). test y && parts_pass (map-Ty Ty Judged (judged test) y)) (shows itself l)

-- ---- sizes

pub smaller_set : (t part : Ty) → t ≡ type.Set part → size-Ty part < size-Ty t
smaller_set t part is = search (rules, the_lemmas)

smaller_map : (t k v : Ty) → t ≡ type.Map k v → size-Ty v < size-Ty t
smaller_map t k v is = search (rules, the_lemmas)

pub smaller_big_map : (t k v : Ty) → t ≡ type.BigMap k v → size-Ty v < size-Ty t
smaller_big_map t k v is = search (rules, the_lemmas)

pub smaller_values : (t k v : Ty) → (t ≡ type.Map k v) ⊎ (t ≡ type.BigMap k v) → size-Ty v < size-Ty t
smaller_values t k v (inl is) = smaller_map t k v is
smaller_values t k v (inr is) = smaller_big_map t k v is

-- ---- keys, and values of big maps

pub keys-set : (t : Ty) → has_comparable_keys (type.Set t) ≡ (is_comparable t && has_comparable_keys t)
keys-set t = throughout-shown keys_here (level.Set t)

pub keys-map : (k v : Ty) → has_comparable_keys (type.Map k v) ≡ (is_comparable k && (has_comparable_keys k && has_comparable_keys v))
keys-map k v = throughout-shown keys_here (level.Map k v)

pub keys-big_map : (k v : Ty) → has_comparable_keys (type.BigMap k v) ≡ (is_comparable k && (has_comparable_keys k && has_comparable_keys v))
keys-big_map k v = throughout-shown keys_here (level.BigMap k v)

-- those of entries, in a map or a big map
pub keys-entries : (t k v : Ty) → (t ≡ type.Map k v) ⊎ (t ≡ type.BigMap k v) →
    has_comparable_keys t ≡ (is_comparable k && (has_comparable_keys k && has_comparable_keys v))
keys-entries t k v (inl is) = ap has_comparable_keys is ∙ keys-map k v
keys-entries t k v (inr is) = ap has_comparable_keys is ∙ keys-big_map k v

pub values-big_map : (k v : Ty) → has_passable_values (type.BigMap k v) ≡ (is_passable v && (has_passable_values k && has_passable_values v))
values-big_map k v = throughout-shown values_here (level.BigMap k v)

pub ruleset written_parts = (keys-set, keys-map, keys-big_map, values-big_map)

-- ---- places of big maps

abbrev placed : Ty → Placed
placed = fold-Ty Placed placed_level

-- the second judgment is that no big map stands in the type
abbrev TellsFree : Ty → Type 0
TellsFree t = (placed t).1 ≡ is_free_of_big_maps t

abbrev Free : Ty-F Ty → Bool
Free x = is_no_big_map_type x && parts_pass (map-Ty Ty Judged (judged is_no_big_map_type) x)

free_level : (x : Ty-F Ty) → Each TellsFree (types_in x) → (placed_level (map-Ty Ty Placed placed x)).1 ≡ Free x
free_level (ty.Option t) same = same.0
free_level (ty.Or s t) same = λ i. same.0 i && same.1.0 i
free_level (ty.Pair s t) same = λ i. same.0 i && same.1.0 i
free_level (ty.List t) same = same.0
free_level (ty.Set t) same = same.0
free_level (ty.Map k v) same = λ i. same.0 i && same.1.0 i
free_level (ty.BigMap k v) same = refl
free_level (ty.Contract t) same = same.0
free_level ty.Unit same = refl
free_level _ same = refl

tells_free : (t : Ty) → TellsFree t
tells_free = induction TellsFree (λ t same.
    ap (λ (p : Placed). p.1) (fold-at placed_level t (out-Ty t) refl) ∙ free_level (out-Ty t) same ∙ sym (throughout-level is_no_big_map_type t))

-- both parts of a big map are free of others
pub placed-big_map : (k v : Ty) → has_placed_big_maps (type.BigMap k v) ≡ (is_free_of_big_maps k && is_free_of_big_maps v)
placed-big_map k v =
    ap (λ (p : Placed). p.0) (fold-at placed_level (type.BigMap k v) (ty.BigMap k v) (shows itself (level.BigMap k v)))
    ∙ (λ i. tells_free k i && tells_free v i)

placed_other : (x : Ty-F Ty) → ((s u : Ty) → x ≡ ty.Pair s u → ⊥) → ((k v : Ty) → x ≡ ty.BigMap k v → ⊥) →
    (placed_level (map-Ty Ty Placed placed x)).0 ≡ (placed_level (map-Ty Ty Placed placed x)).1
placed_other (ty.Pair s u) pair map = absurd (pair s u refl)
placed_other (ty.BigMap k v) pair map = absurd (map k v refl)
placed_other ty.Unit pair map = refl
placed_other _ pair map = refl

-- in any other type than a pair or a big map, none may stand
pub placed-other : (t : Ty) → ((s u : Ty) → t ≡ type.Pair s u → ⊥) → ((k v : Ty) → t ≡ type.BigMap k v → ⊥) →
    has_placed_big_maps t ≡ is_free_of_big_maps t
placed-other t pair map =
    let level = fold-at placed_level t (out-Ty t) refl in
    ap (λ (p : Placed). p.0) level
    ∙ placed_other (out-Ty t) (λ s u e. pair s u (rolls_pair t s u e)) (λ k v e. map k v (rolls_big_map t k v e))
    ∙ sym (ap (λ (p : Placed). p.1) level) ∙ tells_free t

pub ruleset placed_parts = (placed-big_map, placed-other)
