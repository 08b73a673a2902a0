-- Types of storages at pairs, at big maps and elsewhere: the type that is written for them, and their big maps.
use Rattle.std.proofs.Common.{◌≡◌, List, [], ◌∷◌, ◌++◌, refl, sym, ap, subst, ◌∙◌}
use Rattle.value_core.specs.declared.ty.Ty.{Ty}
use Rattle.value_core.specs.declared.ty.Ty.TheVariants as kind
use Rattle.value_core.specs.declared.ty.Ty.TheOpen as ty
use Rattle.value_core.specs.declared.ty.Ty.TheOpen.{Ty-F}
use Rattle.value_core.specs.declared.ty.Ty.TheViews.{out-Ty, roll-Ty}
use Rattle.value_core.specs.declared.ty.Ty.TheFolds.{fold-Ty, fold_out-Ty, map-Ty}
use Rattle.value_core.specs.BigMaps.{Beside, beside_level, big_maps_of}
use Rattle.value_core.specs.Combs.{comb}
use Rattle.value_core.proofs.Combs.{one_more_part}
use Rattle.value_core.specs.TypeLevels.{Each, fold-at, induction, roll-out, rolls_big_map, rolls_pair, shows_big_map, shows_pair, types_in}
use Rattle.data_nodes.specs.Storage.{with_maps, written_level}

-- ---- induction along pairs

-- the type is no pair and no big map
pub record IsOther (t : Ty) : Type 0 where
  pub no_pair : (s u : Ty) → t ≡ kind.Pair s u → ⊥
  pub no_map : (k w : Ty) → t ≡ kind.BigMap k w → ⊥

module _ (P : Ty → Type 0) (pair : (s u : Ty) → P s → P u → P (kind.Pair s u)) (big_map : (k w : Ty) → P (kind.BigMap k w)) (other : (t : Ty) → IsOther t → P t) where
  at_level : (t : Ty) (x : Ty-F Ty) → out-Ty t ≡ x → Each P (types_in x) → P t
  at_level t (ty.Pair s u) e h = subst P (sym (rolls_pair t s u e)) (pair s u h.0 h.1.0)
  at_level t (ty.BigMap k w) e h = subst P (sym (rolls_big_map t k w e)) (big_map k w)
  at_level t x e h = other t (record {
    no_pair = λ s u is. let shown = ap out-Ty is ∙ shows_pair s u in absurd cc;
    no_map = λ k w is. let shown = ap out-Ty is ∙ shows_big_map k w in absurd cc;
  })

  -- what holds of pairs where it holds of both parts, of big maps, and of types that are neither, holds of each type
  pub along_pairs : (t : Ty) → P t
  along_pairs = induction P (λ t h. at_level t (out-Ty t) refl h)

-- ---- types that stand beside something

module _ {A : Type 0} (level : Ty-F (Ty × A) → Ty × A) (keeps : (x : Ty-F (Ty × A)) → (level x).0 ≡ roll-Ty (map-Ty (Ty × A) Ty (λ p. p.0) x)) where
  abbrev beside : Ty → Ty × A
  beside = fold-Ty (Ty × A) level

  abbrev Stays : Ty → Type 0
  Stays t = (beside t).0 ≡ t

  rolled : (x : Ty-F Ty) → Each Stays (types_in x) → roll-Ty (map-Ty (Ty × A) Ty (λ p. p.0) (map-Ty Ty (Ty × A) beside x)) ≡ roll-Ty x
  rolled (ty.Option t) h = ap (λ (u : Ty). roll-Ty (ty.Option u)) h.0
  rolled (ty.Or s t) h = λ i. roll-Ty (ty.Or (h.0 i) (h.1.0 i))
  rolled (ty.Pair s t) h = λ i. roll-Ty (ty.Pair (h.0 i) (h.1.0 i))
  rolled (ty.List t) h = ap (λ (u : Ty). roll-Ty (ty.List u)) h.0
  rolled (ty.Set t) h = ap (λ (u : Ty). roll-Ty (ty.Set u)) h.0
  rolled (ty.Map k v) h = λ i. roll-Ty (ty.Map (h.0 i) (h.1.0 i))
  rolled (ty.BigMap k v) h = λ i. roll-Ty (ty.BigMap (h.0 i) (h.1.0 i))
  rolled (ty.Contract t) h = ap (λ (u : Ty). roll-Ty (ty.Contract u)) h.0
  rolled _ h = refl

  pub type_beside : (t : Ty) → (beside t).0 ≡ t
  type_beside = induction Stays (λ t h.
      ap (λ (p : Ty × A). p.0) (fold_out-Ty (Ty × A) level t) ∙ keeps (map-Ty Ty (Ty × A) beside (out-Ty t)) ∙ rolled (out-Ty t) h ∙ roll-out t)

-- ---- the type that is written

abbrev both : Ty → Ty × Ty
both = fold-Ty (Ty × Ty) written_level

written_keeps : (x : Ty-F (Ty × Ty)) → (written_level x).0 ≡ roll-Ty (map-Ty (Ty × Ty) Ty (λ p. p.0) x)
written_keeps (ty.Pair s t) = sym (kind.rolls-Pair s.0 t.0)
written_keeps (ty.BigMap k v) = sym (kind.rolls-BigMap k.0 v.0)
written_keeps _ = refl

type_kept : (t : Ty) → (both t).0 ≡ t
type_kept = type_beside written_level written_keeps

pub with_maps-pair : (s u : Ty) → with_maps (kind.Pair s u) ≡ kind.Pair (with_maps s) (with_maps u)
with_maps-pair s u = ap (λ (p : Ty × Ty). p.1) (fold-at written_level (kind.Pair s u) (ty.Pair s u) (shows_pair s u))

pub with_maps-map : (k w : Ty) → with_maps (kind.BigMap k w) ≡ kind.Map k w
with_maps-map k w =
    ap (λ (p : Ty × Ty). p.1) (fold-at written_level (kind.BigMap k w) (ty.BigMap k w) (shows_big_map k w)) ∙ (λ i. kind.Map (type_kept k i) (type_kept w i))

same_at : (x : Ty-F Ty) → ((s u : Ty) → x ≡ ty.Pair s u → ⊥) → ((k v : Ty) → x ≡ ty.BigMap k v → ⊥) →
    (written_level (map-Ty Ty (Ty × Ty) both x)).1 ≡ (written_level (map-Ty Ty (Ty × Ty) both x)).0
same_at (ty.Pair s u) p q = absurd (p s u refl)
same_at (ty.BigMap k v) p q = absurd (q k v refl)
same_at _ p q = refl

pub with_maps-other : (t : Ty) → IsOther t → with_maps t ≡ t
with_maps-other t o =
    ap (λ (p : Ty × Ty). p.1) (fold_out-Ty (Ty × Ty) written_level t)
    ∙ same_at (out-Ty t) (λ s u e. o.no_pair s u (rolls_pair t s u e)) (λ k v e. o.no_map k v (rolls_big_map t k v e))
    ∙ sym (ap (λ (p : Ty × Ty). p.0) (fold_out-Ty (Ty × Ty) written_level t)) ∙ type_kept t

-- ---- its big maps

pub maps-pair : (s u : Ty) → big_maps_of (kind.Pair s u) ≡ big_maps_of s ++ big_maps_of u
maps-pair s u = ap (λ (b : Beside). b.1) (fold-at beside_level (kind.Pair s u) (ty.Pair s u) (shows_pair s u))

pub maps-map : (k w : Ty) → big_maps_of (kind.BigMap k w) ≡ (k, w) ∷ []
maps-map k w =
    ap (λ (b : Beside). b.1) (fold-at beside_level (kind.BigMap k w) (ty.BigMap k w) (shows_big_map k w))
    ∙ (λ i. (type_beside beside_level (λ x. refl) k i, type_beside beside_level (λ x. refl) w i) ∷ [])

-- what is written for a pair stands behind what was written for the parts before it
pub written_turn : (whole t s u : Ty) (firsts : List Ty) → t ≡ kind.Pair s u → whole ≡ comb kind.Pair firsts (with_maps t) →
    whole ≡ comb kind.Pair (firsts ++ with_maps s ∷ []) (with_maps u)
written_turn whole t s u firsts is so_far =
    so_far ∙ ap (comb kind.Pair firsts) (ap with_maps is ∙ with_maps-pair s u) ∙ sym (one_more_part kind.Pair firsts (with_maps s) (with_maps u))
