-- A value belongs to a type where it fits at its level, and its parts belong to theirs.
use Rattle.std.proofs.Common.{◌≡◌, ℕ, Bool, true, List, [], ◌∷◌, ◌++◌, map, refl, ap, sym, subst, ◌∙◌}
use Rattle.std.specs.Prelude.{◌&&◌, IsTrue, nat_lt}
use Rattle.std.specs.List.{AllByRecursion, flat_map, list_all}
use Rattle.value_core.specs.declared.ty.Ty.{Ty}
use Rattle.value_core.specs.declared.ty.Ty.TheOpen as ty
use Rattle.value_core.specs.declared.ty.Ty.TheOpen.{Ty-F}
use Rattle.value_core.specs.declared.ty.Ty.TheViews.{out-Ty}
use Rattle.value_core.specs.declared.val.Val.{Val}
use Rattle.value_core.specs.declared.val.Val.TheOpen as is
use Rattle.value_core.specs.declared.val.Val.TheViews.{out-Val}
use Rattle.value_core.specs.Layer.{Layer, flat, on_parts, parts_of}
use Rattle.value_core.specs.Sound.{is_sound, is_sound_level}
use Rattle.value_core.specs.Typed.{fits, fits_level}
use Rattle.value_core.proofs.Bools.{both_true, first_true, second_true}
use Rattle.value_core.proofs.CanonicalLevels.{no_fit}
use Rattle.value_core.proofs.Everywhere.{everywhere-is}
use Rattle.value_core.proofs.Levels.{by_level-is}
use Rattle.value_core.proofs.TypeEquations.{fits-is}
use Rattle.michelson_rules.specs.Runs.{Changes}
use Rattle.michelson_rules.specs.TypedLevels.{AllHave, EntriesHave, Fits, GoesByLevels}
use Rattle.michelson_rules.specs.TypedValues.{Belongs, IsTypedWith, Standing, StandsRight, standing, standing_level}
use Rattle.michelson_rules.proofs.Alls.{all_append, all_first, all_last}

pub standing-is : (v : Val) (t : Ty) → standing v t ≡ standing_level (on_parts standing (out-Val v)) (out-Ty t)
standing-is v t = ap (λ (f : Ty → List Standing). f t) (by_level-is {A = Ty → List Standing} (λ x t. standing_level x (out-Ty t)) v)

module _ (Right : Standing → Type 0) where
  -- the big map stands at one of the 16 places, and is such
  abbrev pub BigMapIs : ℕ → ℕ → Ty → Ty → Type 0
  BigMapIs place version k t = IsTrue (nat_lt place 16) × Right (record { place = place; version = version; key = k; item = t })

  abbrev Has : Val → Ty → Type 0
  Has = IsTypedWith Right

  -- what stands at a level, by its parts
  record AtLevel (x : Layer Val) (y : Ty-F Ty) : Type 0 where
    sound : is_sound_level x ≡ true
    parts : list_all is_sound (parts_of x) ≡ true
    built : fits_level (on_parts fits x) y ≡ true
    right : AllByRecursion Right (standing_level (on_parts standing x) y)

  level_of : (v : Val) (t : Ty) → Has v t → AtLevel (out-Val v) (out-Ty t)
  level_of v t has = record {
    sound = first_true (is_sound_level (out-Val v)) _ here;
    parts = second_true (is_sound_level (out-Val v)) _ here;
    built = sym (fits-is v t) ∙ second_true (is_sound v) (fits v t) has.typed;
    right = subst (AllByRecursion Right) (standing-is v t) has.big_maps;
  }
    where
      here : (is_sound_level (out-Val v) && list_all is_sound (parts_of (out-Val v))) ≡ true
      here = sym (everywhere-is is_sound_level v) ∙ first_true (is_sound v) (fits v t) has.typed

  of_level : (v : Val) (t : Ty) → AtLevel (out-Val v) (out-Ty t) → Has v t
  of_level v t at = record {
    typed = both_true (is_sound v) (fits v t) (everywhere-is is_sound_level v ∙ both_true (is_sound_level (out-Val v)) _ at.sound at.parts)
        (fits-is v t ∙ at.built);
    big_maps = subst (AllByRecursion Right) (sym (standing-is v t)) at.right;
  }

  -- a part belongs to its type
  belongs : (v : Val) (t : Ty) → is_sound v ≡ true → fits v t ≡ true → AllByRecursion Right (standing v t) → Has v t
  belongs v t sound built right = record { typed = both_true (is_sound v) (fits v t) sound built; big_maps = right }

  -- ---- items and entries

  abbrev BuiltAs : Ty → (Ty → Bool) → Bool
  BuiltAs t built = built t

  abbrev standing_in : Ty → (Ty → List Standing) → List Standing
  standing_in t stands = stands t

  all_have : (t : Ty) (vs : List Val) → list_all is_sound vs ≡ true → list_all (BuiltAs t) (map fits vs) ≡ true →
      AllByRecursion Right (flat_map (standing_in t) (map standing vs)) → AllHave Has BigMapIs t vs
  all_have t [] sound built right = tt
  all_have t (v ∷ vs) sound built right = (
    belongs v t (first_true (is_sound v) _ sound) (first_true (fits v t) _ built) (all_first Right (standing v t) _ right),
    all_have t vs (second_true (is_sound v) _ sound) (second_true (fits v t) _ built) (all_last Right (standing v t) _ right),
  )

  record Items (t : Ty) (vs : List Val) : Type 0 where
    sound : list_all is_sound vs ≡ true
    built : list_all (BuiltAs t) (map fits vs) ≡ true
    right : AllByRecursion Right (flat_map (standing_in t) (map standing vs))

  items_of : (t : Ty) (vs : List Val) → AllHave Has BigMapIs t vs → Items t vs
  items_of t [] have = record { sound = refl; built = refl; right = tt }
  items_of t (v ∷ vs) have =
      let rest : Items t vs = items_of t vs have.1 in
      record {
        sound = both_true (is_sound v) _ (first_true (is_sound v) (fits v t) have.0.typed) rest.sound;
        built = both_true (fits v t) _ (second_true (is_sound v) (fits v t) have.0.typed) rest.built;
        right = all_append Right (standing v t) _ have.0.big_maps rest.right;
      }

  abbrev built_entry : Ty → Ty → (Ty → Bool) × (Ty → Bool) → Bool
  built_entry k t e = e.0 k && e.1 t

  abbrev standing_entry : Ty → Ty → (Ty → List Standing) × (Ty → List Standing) → List Standing
  standing_entry k t e = e.0 k ++ e.1 t

  abbrev fits_of : Val × Val → (Ty → Bool) × (Ty → Bool)
  fits_of e = (fits e.0, fits e.1)

  abbrev standing_of : Val × Val → (Ty → List Standing) × (Ty → List Standing)
  standing_of e = (standing e.0, standing e.1)

  record Entries (k t : Ty) (es : List (Val × Val)) : Type 0 where
    sound : list_all is_sound (flat es) ≡ true
    built : list_all (built_entry k t) (map fits_of es) ≡ true
    right : AllByRecursion Right (flat_map (standing_entry k t) (map standing_of es))

  entries_have : (k t : Ty) (es : List (Val × Val)) → Entries k t es → EntriesHave Has BigMapIs k t es
  entries_have k t [] at = tt
  entries_have k t (e ∷ es) at =
      let sound_item : (is_sound e.1 && list_all is_sound (flat es)) ≡ true = second_true (is_sound e.0) _ at.sound in
      let built : (fits e.0 k && fits e.1 t) ≡ true = first_true (fits e.0 k && fits e.1 t) _ at.built in
      let right : AllByRecursion Right (standing e.0 k ++ standing e.1 t) = all_first Right (standing e.0 k ++ standing e.1 t) _ at.right in (
        (
          belongs e.0 k (first_true (is_sound e.0) _ at.sound) (first_true (fits e.0 k) _ built) (all_first Right (standing e.0 k) _ right),
          belongs e.1 t (first_true (is_sound e.1) _ sound_item) (second_true (fits e.0 k) _ built) (all_last Right (standing e.0 k) _ right),
        ),
        entries_have k t es (record {
          sound = second_true (is_sound e.1) _ sound_item;
          built = second_true (fits e.0 k && fits e.1 t) _ at.built;
          right = all_last Right (standing e.0 k ++ standing e.1 t) _ at.right;
        }),
      )

  entries_of : (k t : Ty) (es : List (Val × Val)) → EntriesHave Has BigMapIs k t es → Entries k t es
  entries_of k t [] have = record { sound = refl; built = refl; right = tt }
  entries_of k t (e ∷ es) have =
      let rest : Entries k t es = entries_of k t es have.1 in
      let key : Has e.0 k = have.0.0 in
      let item : Has e.1 t = have.0.1 in
      record {
        sound = both_true (is_sound e.0) _ (first_true (is_sound e.0) _ key.typed) (both_true (is_sound e.1) _ (first_true (is_sound e.1) _ item.typed) rest.sound);
        built = both_true (fits e.0 k && fits e.1 t) _ (both_true (fits e.0 k) _ (second_true (is_sound e.0) _ key.typed) (second_true (is_sound e.1) _ item.typed)) rest.built;
        right = all_append Right (standing e.0 k ++ standing e.1 t) _ (all_append Right (standing e.0 k) _ key.big_maps item.big_maps) rest.right;
      }

  -- ---- levels

  one_part : (v : Val) (t : Ty) → list_all is_sound (v ∷ []) ≡ true → fits v t ≡ true → AllByRecursion Right (standing v t) → Has v t
  one_part v t parts built right = belongs v t (first_true (is_sound v) _ parts) built right

  parts_at : (x : Layer Val) (y : Ty-F Ty) → AtLevel x y → Fits Has BigMapIs x y
  parts_at is.Unit ty.Unit at = tt
  parts_at (is.Bool b) ty.Bool at = tt
  parts_at (is.Int n) ty.Int at = tt
  parts_at (is.Nat n) ty.Nat at = at.sound
  parts_at (is.Mutez n) ty.Mutez at = at.sound
  parts_at (is.Time n) ty.Time at = tt
  parts_at (is.Text bytes) ty.Text at = tt
  parts_at (is.Bytes bytes) ty.Bytes at = tt
  parts_at (is.Addr address) ty.Addr at = tt
  parts_at is.Nothing (ty.Option t) at = tt
  parts_at (is.Some part) (ty.Option t) at = one_part part t at.parts at.built at.right
  parts_at (is.Left part) (ty.Or s t) at = one_part part s at.parts at.built at.right
  parts_at (is.Right part) (ty.Or s t) at = one_part part t at.parts at.built at.right
  parts_at (is.Pair a b) (ty.Pair s t) at = (
    belongs a s (first_true (is_sound a) _ at.parts) (first_true (fits a s) (fits b t) at.built) (all_first Right (standing a s) (standing b t) at.right),
    one_part b t (second_true (is_sound a) _ at.parts) (second_true (fits a s) (fits b t) at.built) (all_last Right (standing a s) (standing b t) at.right),
  )
  parts_at (is.List items) (ty.List t) at = (at.sound, all_have t items at.parts at.built at.right)
  parts_at (is.Set items) (ty.Set t) at = (first_true _ _ at.sound, second_true _ _ at.sound, all_have t items at.parts at.built at.right)
  parts_at (is.Map entries) (ty.Map k t) at =
      (first_true _ _ at.sound, second_true _ _ at.sound, entries_have k t entries (record { sound = at.parts; built = at.built; right = at.right }))
  parts_at (is.BigMap place version) (ty.BigMap k t) at = (at.sound, at.right.0)
  parts_at (is.Contract address entry) (ty.Contract t) at = tt
  parts_at (is.Operation emit) ty.Operation at = (at.sound, first_true (is_sound emit.param) _ at.parts)
  parts_at _ _ at = no_fit at.built

  typed_part : (v : Val) (t : Ty) → Has v t → list_all is_sound (v ∷ []) ≡ true
  typed_part v t has = both_true (is_sound v) true (first_true (is_sound v) _ has.typed) refl

  built_part : (v : Val) (t : Ty) → Has v t → fits v t ≡ true
  built_part v t has = second_true (is_sound v) _ has.typed

  whole_at : (x : Layer Val) (y : Ty-F Ty) → Fits Has BigMapIs x y → AtLevel x y
  whole_at is.Unit ty.Unit fit = record { sound = refl; parts = refl; built = refl; right = tt }
  whole_at (is.Bool b) ty.Bool fit = record { sound = refl; parts = refl; built = refl; right = tt }
  whole_at (is.Int n) ty.Int fit = record { sound = refl; parts = refl; built = refl; right = tt }
  whole_at (is.Nat n) ty.Nat fit = record { sound = fit; parts = refl; built = refl; right = tt }
  whole_at (is.Mutez n) ty.Mutez fit = record { sound = fit; parts = refl; built = refl; right = tt }
  whole_at (is.Time n) ty.Time fit = record { sound = refl; parts = refl; built = refl; right = tt }
  whole_at (is.Text bytes) ty.Text fit = record { sound = refl; parts = refl; built = refl; right = tt }
  whole_at (is.Bytes bytes) ty.Bytes fit = record { sound = refl; parts = refl; built = refl; right = tt }
  whole_at (is.Addr address) ty.Addr fit = record { sound = refl; parts = refl; built = refl; right = tt }
  whole_at is.Nothing (ty.Option t) fit = record { sound = refl; parts = refl; built = refl; right = tt }
  whole_at (is.Some part) (ty.Option t) fit = record { sound = refl; parts = typed_part part t fit; built = built_part part t fit; right = fit.big_maps }
  whole_at (is.Left part) (ty.Or s t) fit = record { sound = refl; parts = typed_part part s fit; built = built_part part s fit; right = fit.big_maps }
  whole_at (is.Right part) (ty.Or s t) fit = record { sound = refl; parts = typed_part part t fit; built = built_part part t fit; right = fit.big_maps }
  whole_at (is.Pair a b) (ty.Pair s t) fit = record {
    sound = refl;
    parts = both_true (is_sound a) _ (first_true (is_sound a) _ fit.0.typed) (typed_part b t fit.1);
    built = both_true (fits a s) (fits b t) (built_part a s fit.0) (built_part b t fit.1);
    right = all_append Right (standing a s) (standing b t) fit.0.big_maps fit.1.big_maps;
  }
  whole_at (is.List items) (ty.List t) fit =
      let of_items : Items t items = items_of t items fit.1 in
      record { sound = fit.0; parts = of_items.sound; built = of_items.built; right = of_items.right }
  whole_at (is.Set items) (ty.Set t) fit =
      let of_items : Items t items = items_of t items fit.2 in
      record { sound = both_true _ _ fit.0 fit.1; parts = of_items.sound; built = of_items.built; right = of_items.right }
  whole_at (is.Map entries) (ty.Map k t) fit =
      let of_entries : Entries k t entries = entries_of k t entries fit.2 in
      record { sound = both_true _ _ fit.0 fit.1; parts = of_entries.sound; built = of_entries.built; right = of_entries.right }
  whole_at (is.BigMap place version) (ty.BigMap k t) fit = record { sound = fit.0; parts = refl; built = refl; right = (fit.1, tt) }
  whole_at (is.Contract address entry) (ty.Contract t) fit = record { sound = refl; parts = refl; built = refl; right = tt }
  whole_at (is.Operation emit) ty.Operation fit = record { sound = fit.0; parts = both_true (is_sound emit.param) true fit.1 refl; built = refl; right = tt }
  whole_at _ _ fit = absurd fit

  pub typed_by_levels : GoesByLevels Has BigMapIs
  typed_by_levels = record {
    parts = λ v t has. parts_at (out-Val v) (out-Ty t) (level_of v t has);
    whole = λ v t fit. of_level v t (whole_at (out-Val v) (out-Ty t) fit);
  }

module _ (maps : List (Ty × Ty)) (versions : List Changes) where
  -- the big map has the types of its place, below 16
  abbrev pub BigMapBelongs : ℕ → ℕ → Ty → Ty → Type 0
  BigMapBelongs = BigMapIs (StandsRight maps versions)

  pub belongs_by_levels : GoesByLevels (Belongs maps versions) BigMapBelongs
  belongs_by_levels = typed_by_levels (StandsRight maps versions)
