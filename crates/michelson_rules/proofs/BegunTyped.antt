-- What a call begins with belongs to its types: the parameter, and the storage with each big map at its own place.
use Rattle.std.proofs.Common.{◌≡◌, ℕ, ◌+◌, true, List, [], ◌∷◌, ◌++◌, length, refl, ap, sym, subst, ◌∙◌, arith, append_assoc, append-nil, length-append}
use Rattle.std.specs.Prelude.{◌&&◌, ◌==◌, IsTrue, Some}
use Rattle.std.specs.List.{slice_get}
use Rattle.std.proofs.lemmas.Bool.{eqb-true}
use Rattle.value_core.specs.declared.ty.Ty.{Ty}
use Rattle.value_core.specs.declared.ty.Ty.TheOpen as ty
use Rattle.value_core.specs.declared.ty.Ty.TheVariants as type
use Rattle.value_core.specs.declared.val.Val.{Val}
use Rattle.value_core.specs.declared.val.Val.TheOpen as is
use Rattle.value_core.specs.declared.val.Val.TheVariants as value
use Rattle.value_core.specs.BigMaps.{Placing, big_maps_of, is_at_place, is_placed, is_placed_pair, placing, placing_level}
use Rattle.value_core.specs.Kinds.{is_passable}
use Rattle.value_core.specs.Settled.{is_settled}
use Rattle.value_core.specs.Sound.{is_settled_level}
use Rattle.value_core.specs.TypeLevels.{fold-at, shows_big_map, shows_pair}
use Rattle.value_core.specs.Typed.{has_type}
use Rattle.value_core.proofs.Bools.{first_true, second_true}
use Rattle.value_core.proofs.Canonical.{of_big_map, of_pair}
use Rattle.value_core.proofs.Everywhere.{everywhere-roll}
use Rattle.value_laws.proofs.PlaceLaws.{counted, maps_of-big_map, maps_of-pair}
use Rattle.michelson_code.specs.WrittenTypes.{has_placed_big_maps, is_kept}
use Rattle.michelson_rules.specs.Runs.{changes_of}
use Rattle.michelson_rules.specs.TypedValues.{AreChangesOf, Belongs}
use Rattle.michelson_rules.proofs.Belonging.{of_level, typing}
use Rattle.michelson_rules.proofs.KeptTypes.{IsOther, along_pairs, kept_pair, kept_passes, placed_pair}
use Rattle.michelson_rules.proofs.TypedLevelLaws.{passes_over}

-- the item behind so many others
behind : {A : Type 0} (xs : List A) (y : A) (ys : List A) → slice_get (xs ++ y ∷ ys) (length xs) ≡ Some y
behind [] y ys = refl
behind (x ∷ xs) y ys = behind xs y ys

-- a version without changes
no_changes : (k t : Ty) (version : ℕ) → version ≡ 0 → AreChangesOf k t (changes_of version [])
no_changes k t version is = subst (λ (n : ℕ). AreChangesOf k t (changes_of n [])) (sym is) (record { ascending = refl; typed = tt })

-- ---- places of parts

pub placed_parts : (first : ℕ) (s u : Ty) (a b : Val) → (placing (type.Pair s u)).1 first (value.Pair a b) ≡ ((placing s).1 first a && (placing u).1 (first + (placing s).0) b)
placed_parts first s u a b =
    ap (λ (p : Placing). p.1 first (value.Pair a b)) (fold-at placing_level (type.Pair s u) (ty.Pair s u) (shows_pair s u))
    ∙ ap (is_placed_pair (placing s) (placing u) first) (value.outs-Pair a b)

pub place_is : (first : ℕ) (k w : Ty) (place version : ℕ) → (placing (type.BigMap k w)).1 first (value.BigMap place version) ≡ (place == first)
place_is first k w place version =
    ap (λ (p : Placing). p.1 first (value.BigMap place version)) (fold-at placing_level (type.BigMap k w) (ty.BigMap k w) (shows_big_map k w))
    ∙ ap (is_at_place first) (value.outs-BigMap place version)

module _ (maps : List (Ty × Ty)) where
  -- the big maps of a type are those of the storage from a place on
  record Sits (first : ℕ) (t : Ty) : Type 0 where
    before : List (Ty × Ty)
    after : List (Ty × Ty)
    are : maps ≡ before ++ (big_maps_of t ++ after)
    count : length before ≡ first

  abbrev Begins : Ty → Type 0
  Begins t = is_kept t ≡ true → has_placed_big_maps t ≡ true → (first : ℕ) → Sits first t → (v : Val) → IsTrue (has_type v t) → (placing t).1 first v ≡ true →
      IsTrue (is_settled v) → Belongs maps [] v t

  -- ---- pairs

  sits_first : (first : ℕ) (s u : Ty) → Sits first (type.Pair s u) → Sits first s
  sits_first first s u sits = record {
    before = sits.before;
    after = big_maps_of u ++ sits.after;
    are = sits.are ∙ ap (λ (ms : List (Ty × Ty)). sits.before ++ (ms ++ sits.after)) (maps_of-pair s u) ∙ ap (λ (ms : List (Ty × Ty)). sits.before ++ ms) (append_assoc (big_maps_of s) (big_maps_of u) sits.after);
    count = sits.count;
  }

  sits_second : (first : ℕ) (s u : Ty) → Sits first (type.Pair s u) → Sits (first + (placing s).0) u
  unfolding sits_first
  sits_second first s u sits = record {
    before = sits.before ++ big_maps_of s;
    after = sits.after;
    are = (sits_first first s u sits).are ∙ sym (append_assoc sits.before (big_maps_of s) (big_maps_of u ++ sits.after));
    count = omega (arith, length-append sits.before (big_maps_of s), sits.count, counted s);
  }

  settled_parts : (a b : Val) → is_settled (value.Pair a b) ≡ (is_settled a && (is_settled b && true))
  settled_parts a b = ap is_settled (sym (value.rolls-Pair a b)) ∙ everywhere-roll is_settled_level (is.Pair a b)

  begins_pair : (s u : Ty) → Begins s → Begins u → Begins (type.Pair s u)
  begins_pair s u left right kept placed first sits v typed stands settled =
      let parts = of_pair v s u typed in
      let a : Val = parts.0 in
      let b : Val = parts.1 in
      let both_kept = kept_pair s u kept in
      let both_placed = placed_pair s u placed in
      let stand : ((placing s).1 first a && (placing u).1 (first + (placing s).0) b) ≡ true =
      sym (placed_parts first s u a b) ∙ sym (ap (λ (w : Val). (placing (type.Pair s u)).1 first w) parts.2) ∙ stands in
      let still : (is_settled a && (is_settled b && true)) ≡ true = sym (settled_parts a b) ∙ sym (ap is_settled parts.2) ∙ settled in
      subst (λ (w : Val). Belongs maps [] w (type.Pair s u)) (sym parts.2)
      (of_level maps [] (is.Pair a b) (value.Pair a b) (ty.Pair s u) (type.Pair s u) (value.rolls-Pair a b) (shows_pair s u) (
        left both_kept.0 both_placed.0 first (sits_first first s u sits) a parts.3 (first_true ((placing s).1 first a) _ stand) (first_true (is_settled a) _ still),
        right both_kept.1 both_placed.1 (first + (placing s).0) (sits_second first s u sits) b parts.4 (second_true ((placing s).1 first a) _ stand)
            (first_true (is_settled b) true (second_true (is_settled a) _ still)),
      ))

  -- ---- big maps

  version_is : (place version : ℕ) → is_settled (value.BigMap place version) ≡ ((version == 0) && true)
  version_is place version = ap is_settled (sym (value.rolls-BigMap place version)) ∙ everywhere-roll is_settled_level (is.BigMap place version)

  begins_big_map : (k w : Ty) → Begins (type.BigMap k w)
  begins_big_map k w kept placed first sits v typed stands settled =
      let parts = of_big_map v k w typed in
      let place : ℕ = parts.0 in
      let version : ℕ = parts.1 in
      let there : place ≡ first = eqb-true place first (sym (place_is first k w place version) ∙ sym (ap (λ (m : Val). (placing (type.BigMap k w)).1 first m) parts.2) ∙ stands) in
      let unchanged : version ≡ 0 = eqb-true version 0 (first_true (version == 0) true (sym (version_is place version) ∙ sym (ap is_settled parts.2) ∙ settled)) in
      let its : slice_get maps place ≡ Some (k, w) =
      ap (slice_get maps) (there ∙ sym sits.count)
      ∙ ap (λ (ms : List (Ty × Ty)). slice_get ms (length sits.before)) (sits.are ∙ ap (λ (ms : List (Ty × Ty)). sits.before ++ (ms ++ sits.after)) (maps_of-big_map k w))
      ∙ behind sits.before (k, w) sits.after in
      subst (λ (m : Val). Belongs maps [] m (type.BigMap k w)) (sym parts.2)
      (of_level maps [] (is.BigMap place version) (value.BigMap place version) (ty.BigMap k w) (type.BigMap k w) (value.rolls-BigMap place version) (shows_big_map k w)
      (parts.3, record { types = its; exists = omega (arith, unchanged); changes = no_changes k w version unchanged }))

  -- ---- all else

  begins_other : (t : Ty) → IsOther t → Begins t
  begins_other t other kept placed first sits v typed stands settled = passes_over (typing maps []) t (kept_passes t kept (sym other.free ∙ placed)) v typed

-- a storage belongs to its type
pub storage_belongs : (t : Ty) (v : Val) → is_kept t ≡ true → has_placed_big_maps t ≡ true → IsTrue (has_type v t) → IsTrue (is_placed v t) → IsTrue (is_settled v) →
    Belongs (big_maps_of t) [] v t
storage_belongs t v kept placed typed stands settled =
    along_pairs (Begins (big_maps_of t)) (begins_pair (big_maps_of t)) (begins_big_map (big_maps_of t)) (begins_other (big_maps_of t)) t kept placed 0
    (record { before = []; after = []; are = sym (append-nil (big_maps_of t)); count = refl }) v typed stands settled

-- the pair that a call begins with belongs to its type
pub pair_belongs : (s t : Ty) (param storage : Val) → is_passable s ≡ true → IsTrue (has_type param s) → Belongs (big_maps_of t) [] storage t →
    Belongs (big_maps_of t) [] (value.Pair param storage) (type.Pair s t)
pair_belongs s t param storage passable typed belongs =
    of_level (big_maps_of t) [] (is.Pair param storage) (value.Pair param storage) (ty.Pair s t) (type.Pair s t) (value.rolls-Pair param storage) (shows_pair s t)
    (passes_over (typing (big_maps_of t) []) s passable param typed, belongs)
