-- A storage with its entries in maps, at pairs, at big maps and elsewhere.
use Rattle.std.proofs.Common.{◌≡◌, ℕ, true, List, [], ◌∷◌, ◌++◌, refl, sym, ap, ◌∙◌}
use Rattle.std.specs.Prelude.{IsTrue}
use Rattle.std.proofs.lemmas.Bool.{and_parts, false≢true}
use Rattle.value_core.specs.declared.ty.Ty.{Ty}
use Rattle.value_core.specs.declared.ty.Ty.TheOpen as ty
use Rattle.value_core.specs.declared.ty.Ty.TheOpen.{Ty-F}
use Rattle.value_core.specs.declared.ty.Ty.TheViews.{out-Ty}
use Rattle.value_core.specs.declared.val.Val.{Val}
use Rattle.value_core.specs.declared.val.Val.TheVariants as value
use Rattle.value_core.specs.declared.val.Val.TheOpen as one
use Rattle.value_core.specs.declared.val.Val.TheViews.{out-Val, roll-Val}
use Rattle.value_core.specs.Combs.{comb}
use Rattle.value_core.specs.Layer.{Layer, by_level, on_parts}
use Rattle.value_core.proofs.Combs.{one_more_part}
use Rattle.value_core.specs.Sound.{is_sound}
use Rattle.value_core.specs.Typed.{fits, fits_level, has_type}
use Rattle.value_core.specs.TypeLevels.{rolls_big_map, rolls_pair}
use Rattle.value_core.proofs.Levels.{by_level-roll, out-roll, roll-out}
use Rattle.value_core.proofs.TypeEquations.{fits-is}
use Rattle.data_nodes.specs.Storage.{Entry, entries_at, joined_level, with_entries}
use Rattle.data_nodes.proofs.StorageTypes.{IsOther}

module _ (all : List Entry) where
  abbrev level : Layer (Val → Val) → Val → Val
  level x w = joined_level all x (out-Val w)

  abbrev parts_joined : Layer Val → Layer (Val → Val)
  parts_joined = on_parts (by_level {A = Val → Val} level)

  joined-roll : (x : Layer Val) → with_entries all (roll-Val x) ≡ joined_level all (parts_joined x) x
  joined-roll x = ap (λ (f : Val → Val). f (roll-Val x)) (by_level-roll {A = Val → Val} level x) ∙ ap (joined_level all (parts_joined x)) (out-roll x)

  pub joined-pair : (a b : Val) → with_entries all (value.Pair a b) ≡ value.Pair (with_entries all a) (with_entries all b)
  joined-pair a b = ap (with_entries all) (sym (value.rolls-Pair a b)) ∙ joined-roll (one.Pair a b)

  pub joined-map : (place version : ℕ) → with_entries all (value.BigMap place version) ≡ value.Map (entries_at place all)
  joined-map place version = ap (with_entries all) (sym (value.rolls-BigMap place version)) ∙ joined-roll (one.BigMap place version)

  stays_at : (x : Layer Val) (y : Ty-F Ty) → fits_level (on_parts fits x) y ≡ true → ((s u : Ty) → y ≡ ty.Pair s u → ⊥) → ((k w : Ty) → y ≡ ty.BigMap k w → ⊥) →
      joined_level all (parts_joined x) x ≡ roll-Val x
  stays_at (one.Pair a b) (ty.Pair s u) fit p q = absurd (p s u refl)
  stays_at (one.Pair a b) y fit p q = absurd (false≢true fit)
  stays_at (one.BigMap place version) (ty.BigMap k w) fit p q = absurd (q k w refl)
  stays_at (one.BigMap place version) y fit p q = absurd (false≢true fit)
  stays_at _ y fit p q = refl

  -- a value at any other type stays as it is
  pub joined-other : (t : Ty) (v : Val) → IsOther t → IsTrue (has_type v t) → with_entries all v ≡ v
  joined-other t v o typed =
      let fit : fits_level (on_parts fits (out-Val v)) (out-Ty t) ≡ true = sym (fits-is v t) ∙ (and_parts (is_sound v) _ typed).1 in
      ap (with_entries all) (sym (roll-out v)) ∙ joined-roll (out-Val v)
      ∙ stays_at (out-Val v) (out-Ty t) fit (λ s u e. o.no_pair s u (rolls_pair t s u e)) (λ k w e. o.no_map k w (rolls_big_map t k w e)) ∙ roll-out v

  -- ---- as a loop joins it

  pub joined_turn : (whole_value v a b : Val) (firsts : List Val) → v ≡ value.Pair a b → whole_value ≡ comb value.Pair firsts (with_entries all v) →
      whole_value ≡ comb value.Pair (firsts ++ with_entries all a ∷ []) (with_entries all b)
  joined_turn whole_value v a b firsts is so_far =
      so_far ∙ ap (comb value.Pair firsts) (ap (with_entries all) is ∙ joined-pair a b) ∙ sym (one_more_part value.Pair firsts (with_entries all a) (with_entries all b))

  plain_at : (x : Layer Val) → ((a b : Val) → x ≡ one.Pair a b → ⊥) → ((place version : ℕ) → x ≡ one.BigMap place version → ⊥) → joined_level all (parts_joined x) x ≡ roll-Val x
  plain_at (one.Pair a b) p q = absurd (p a b refl)
  plain_at (one.BigMap place version) p q = absurd (q place version refl)
  plain_at _ p q = refl

  -- a value that is no pair and no big map stays as it is
  pub joined-plain : (v : Val) → ((a b : Val) → v ≡ value.Pair a b → ⊥) → ((place version : ℕ) → v ≡ value.BigMap place version → ⊥) → with_entries all v ≡ v
  joined-plain v p q =
      ap (with_entries all) (sym (roll-out v)) ∙ joined-roll (out-Val v)
      ∙ plain_at (out-Val v) (λ a b e. p a b (sym (roll-out v) ∙ ap roll-Val e ∙ value.rolls-Pair a b)) (λ place version e. q place version (sym (roll-out v) ∙ ap roll-Val e ∙ value.rolls-BigMap place version))
      ∙ roll-out v
