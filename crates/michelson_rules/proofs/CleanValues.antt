-- Values of passable types have no big maps: without versions they are themselves.
use Rattle.std.proofs.Common.{◌≡◌, ℕ, Bool, true, false, List, [], ◌∷◌, ◌++◌, map, refl, ap, sym, ◌∙◌}
use Rattle.std.specs.List.{AllByRecursion, flat_map, list_all}
use Rattle.value_core.specs.declared.ty.Ty.{Ty}
use Rattle.value_core.specs.declared.ty.Ty.TheOpen as ty
use Rattle.value_core.specs.declared.ty.Ty.TheOpen.{Ty-F}
use Rattle.value_core.specs.declared.ty.Ty.TheViews.{out-Ty}
use Rattle.value_core.specs.declared.ty.Ty.TheFolds.{map-Ty}
use Rattle.value_core.specs.declared.val.Val.{Val}
use Rattle.value_core.specs.declared.val.Emit.{Emit}
use Rattle.value_core.specs.declared.val.Val.TheOpen as is
use Rattle.value_core.specs.declared.val.Val.TheViews.{out-Val, roll-Emit, roll-Val}
use Rattle.value_core.specs.declared.val.Val.TheFolds.{fold-Emit, fold_out-Val, map-Val}
use Rattle.value_core.specs.BigMaps.{has_no_big_map, is_no_big_map}
use Rattle.value_core.specs.Kinds.{is_passable, passable_level}
use Rattle.value_core.specs.Layer.{Layer, flat, on_parts, parts_of}
use Rattle.value_core.specs.TypeLevels.{Each, fold-at, induction, types_in}
use Rattle.value_core.proofs.Bools.{both_true, first_true, second_true}
use Rattle.value_core.proofs.Everywhere.{everywhere-is}
use Rattle.value_core.proofs.Levels.{by_level-is, parts_of-on_parts, roll-out}
use Rattle.michelson_rules.specs.Returned.{big_maps_here, big_maps_in, unversioned, unversioned_level}
use Rattle.michelson_rules.specs.TypedLevels.{AllHave, EntriesHave, Fits}
use Rattle.michelson_rules.proofs.Alls.{all_weaker}
use Rattle.michelson_rules.specs.DataOperands.{HasType}
use Rattle.michelson_rules.proofs.TypedLevelLaws.{IsPlaced, has_type_by_levels}

-- no big map stands in the value
pub record IsClean (v : Val) : Type 0 where
  pub same : unversioned v ≡ v
  pub none : big_maps_in v ≡ []
  pub free : has_no_big_map v ≡ true

-- ---- levels whose parts are clean

-- neither a big map nor an operation
abbrev is_still : Layer Val → Bool
is_still (is.BigMap place version) = false
is_still (is.Operation emit) = false
is_still _ = true

abbrev unversioned_emit : Emit → Emit
unversioned_emit = fold-Emit Val Emit unversioned_level (λ e. roll-Emit e)

items_same : (vs : List Val) → AllByRecursion IsClean vs → map unversioned vs ≡ vs
items_same [] clean = refl
items_same (v ∷ vs) clean = λ i. clean.0.same i ∷ items_same vs clean.1 i

abbrev entry_unversioned : Val × Val → Val × Val
entry_unversioned e = (unversioned e.0, unversioned e.1)

entries_same : (es : List (Val × Val)) → AllByRecursion IsClean (flat es) → map entry_unversioned es ≡ es
entries_same [] clean = refl
entries_same (e ∷ es) clean = λ i. (clean.0.same i, clean.1.0.same i) ∷ entries_same es clean.1.1 i

level_same : (x : Layer Val) → is_still x ≡ true → AllByRecursion IsClean (parts_of x) → unversioned_level (map-Val Val Emit Val Emit unversioned unversioned_emit x) ≡ roll-Val x
level_same (is.Some part) still clean = λ i. roll-Val (is.Some (clean.0.same i))
level_same (is.Left part) still clean = λ i. roll-Val (is.Left (clean.0.same i))
level_same (is.Right part) still clean = λ i. roll-Val (is.Right (clean.0.same i))
level_same (is.Pair a b) still clean = λ i. roll-Val (is.Pair (clean.0.same i) (clean.1.0.same i))
level_same (is.List items) still clean = λ i. roll-Val (is.List (items_same items clean i))
level_same (is.Set items) still clean = λ i. roll-Val (is.Set (items_same items clean i))
level_same (is.Map entries) still clean = λ i. roll-Val (is.Map (entries_same entries clean i))
level_same (is.BigMap place version) still clean = absurd cc
level_same (is.Operation emit) still clean = absurd cc
level_same _ still clean = refl

abbrev these : List (ℕ × ℕ) → List (ℕ × ℕ)
these ms = ms

none_in : (vs : List Val) → AllByRecursion IsClean vs → flat_map these (map big_maps_in vs) ≡ []
none_in [] clean = refl
none_in (v ∷ vs) clean = ap (λ (ms : List (ℕ × ℕ)). ms ++ flat_map these (map big_maps_in vs)) clean.0.none ∙ none_in vs clean.1

in_parts : (x : Layer Val) → is_still x ≡ true → big_maps_here (on_parts big_maps_in x) ≡ flat_map these (parts_of (on_parts big_maps_in x))
in_parts (is.BigMap place version) still = absurd cc
in_parts _ still = refl

free_here : (x : Layer Val) → is_still x ≡ true → is_no_big_map x ≡ true
free_here (is.BigMap place version) still = absurd cc
free_here _ still = refl

free_in : (vs : List Val) → AllByRecursion IsClean vs → list_all has_no_big_map vs ≡ true
free_in [] clean = refl
free_in (v ∷ vs) clean = both_true (has_no_big_map v) (list_all has_no_big_map vs) clean.0.free (free_in vs clean.1)

clean_level : (v : Val) → is_still (out-Val v) ≡ true → AllByRecursion IsClean (parts_of (out-Val v)) → IsClean v
clean_level v still clean = record {
  same = fold_out-Val Val Emit unversioned_level (λ e. roll-Emit e) v ∙ level_same (out-Val v) still clean ∙ roll-out v;
  none = by_level-is big_maps_here v ∙ in_parts (out-Val v) still ∙ ap (flat_map these) (parts_of-on_parts big_maps_in (out-Val v)) ∙ none_in (parts_of (out-Val v)) clean;
  free = everywhere-is is_no_big_map v ∙ both_true (is_no_big_map (out-Val v)) _ (free_here (out-Val v) still) (free_in (parts_of (out-Val v)) clean);
}

-- ---- values of passable types

abbrev Cleans : Ty → Type 0
Cleans t = is_passable t ≡ true → (v : Val) → HasType v t → IsClean v

clean_items : (t : Ty) → Cleans t → is_passable t ≡ true → (vs : List Val) → AllHave HasType IsPlaced t vs → AllByRecursion IsClean vs
clean_items t cleans pass vs have = all_weaker (λ v. HasType v t) IsClean (λ v has. cleans pass v has) vs have

clean_entries : (k t : Ty) → Cleans k → Cleans t → is_passable k ≡ true → is_passable t ≡ true → (es : List (Val × Val)) → EntriesHave HasType IsPlaced k t es → AllByRecursion IsClean (flat es)
clean_entries k t keys items may may_items [] have = tt
clean_entries k t keys items may may_items (e ∷ es) have = (keys may e.0 have.0.0, (items may_items e.1 have.0.1, clean_entries k t keys items may may_items es have.1))

abbrev CleanLevel : Layer Val → Type 0
CleanLevel x = (is_still x ≡ true) × AllByRecursion IsClean (parts_of x)

clean_at : (x : Layer Val) (y : Ty-F Ty) → Each Cleans (types_in y) → passable_level (map-Ty Ty Bool is_passable y) ≡ true → Fits HasType IsPlaced x y → CleanLevel x
clean_at (is.Some part) (ty.Option t) each pass fit = (refl, (each.0 pass part fit, tt))
clean_at (is.Left part) (ty.Or s t) each pass fit = (refl, (each.0 (first_true (is_passable s) _ pass) part fit, tt))
clean_at (is.Right part) (ty.Or s t) each pass fit = (refl, (each.1.0 (second_true (is_passable s) _ pass) part fit, tt))
clean_at (is.Pair a b) (ty.Pair s t) each pass fit =
    (refl, (each.0 (first_true (is_passable s) _ pass) a fit.0, (each.1.0 (second_true (is_passable s) _ pass) b fit.1, tt)))
clean_at (is.List items) (ty.List t) each pass fit = (refl, clean_items t each.0 pass items fit.1)
clean_at (is.Set items) (ty.Set t) each pass fit = (refl, clean_items t each.0 pass items fit.2)
clean_at (is.Map entries) (ty.Map k t) each pass fit =
    (refl, clean_entries k t each.0 each.1.0 (first_true (is_passable k) _ pass) (second_true (is_passable k) _ pass) entries fit.2)
clean_at is.Unit ty.Unit each pass fit = (refl, tt)
clean_at (is.Bool b) ty.Bool each pass fit = (refl, tt)
clean_at (is.Int n) ty.Int each pass fit = (refl, tt)
clean_at (is.Nat n) ty.Nat each pass fit = (refl, tt)
clean_at (is.Mutez n) ty.Mutez each pass fit = (refl, tt)
clean_at (is.Time n) ty.Time each pass fit = (refl, tt)
clean_at (is.Text bytes) ty.Text each pass fit = (refl, tt)
clean_at (is.Bytes bytes) ty.Bytes each pass fit = (refl, tt)
clean_at (is.Addr address) ty.Addr each pass fit = (refl, tt)
clean_at is.Nothing (ty.Option t) each pass fit = (refl, tt)
clean_at (is.BigMap place version) (ty.BigMap k t) each pass fit = absurd cc
clean_at (is.Contract address entry) (ty.Contract t) each pass fit = absurd cc
clean_at (is.Operation emit) ty.Operation each pass fit = absurd cc
clean_at _ _ each pass fit = absurd fit

pub cleans : (t : Ty) → Cleans t
cleans = induction Cleans (λ t each pass v has.
    let level = clean_at (out-Val v) (out-Ty t) each (sym (fold-at passable_level t (out-Ty t) refl) ∙ pass) (has_type_by_levels.parts v t has) in
    clean_level v level.0 level.1)
