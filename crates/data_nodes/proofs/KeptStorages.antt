-- What a storage is parted into is kept as it should be, and its entries in their maps give back the storage.
use Rattle.std.proofs.Common.{◌≡◌, ℕ, zero, suc, ◌+◌, ◌<◌, ◌≤◌, ◌⊎◌, inl, inr, true, List, [], ◌∷◌, ◌++◌, length, map, refl, sym, ap, subst, ◌∙◌, arith}
use Rattle.std.specs.Prelude.{◌&&◌, ◌==◌, IsSomeAnd, IsTrue, slice_get}
use Rattle.std.specs.List.{AllByRecursion, list_all}
use Rattle.std.proofs.lemmas.Bool.{and_from, and_parts, cases_lt, lt-ltb}
use Rattle.std.proofs.lemmas.Cmp.{nat_eq_equiv}
use Rattle.std.proofs.lemmas.List.{append-nil}
use Rattle.value_core.specs.declared.ty.Ty.{Ty}
use Rattle.value_core.specs.declared.ty.Ty.TheVariants as kind
use Rattle.value_core.specs.declared.ty.Ty.TheOpen as ty
use Rattle.value_core.specs.declared.ty.Ty.TheOpen.{Ty-F}
use Rattle.value_core.specs.declared.ty.Ty.TheViews.{out-Ty}
use Rattle.value_core.specs.declared.ty.Ty.TheFolds.{map-Ty}
use Rattle.value_core.specs.declared.val.Val.{Val}
use Rattle.value_core.specs.declared.val.Val.TheVariants as value
use Rattle.value_core.specs.declared.val.Val.TheOpen as one
use Rattle.value_core.specs.declared.val.Val.TheViews.{out-Val}
use Rattle.value_core.specs.BigMaps.{Placing, big_maps_of, is_at_place, is_placed_pair, placing, placing_level}
use Rattle.value_core.specs.Layer.{flat}
use Rattle.value_core.specs.Sound.{ascends, is_countable, is_plain}
use Rattle.value_core.specs.Typed.{has_type}
use Rattle.value_core.specs.TypeLevels.{fold-at, rolls_big_map, rolls_pair, shows_big_map, shows_pair}
use Rattle.value_core.proofs.BigMapLemmas.{no_maps}
use Rattle.value_core.proofs.Canonical.{of_map, of_pair}
use Rattle.value_core.proofs.Levels.{out-roll}
use Rattle.value_core.proofs.TypeEquations.{has_type-big_map, has_type-pair}
use Rattle.value_laws.proofs.PlainnessEquations.{plain-big_map, plain-map, plain-pair}
use Rattle.data_nodes.specs.Parts.{parted, parting, tagged}
use Rattle.data_nodes.specs.Storage.{Entry, IsEntryOf, IsKept, Kept, entries_ascend, entries_at, with_entries, with_maps}
use Rattle.data_nodes.proofs.EntryLists.{all_append, all_entries, all_tagged, ascend-append, ascend-tagged, at-append, at-none, at-tagged}
use Rattle.data_nodes.proofs.JoinedStorage.{joined-map, joined-other, joined-pair}
use Rattle.data_nodes.proofs.Partings.{count-pair, joined, parted-map, parted-other, parted-pair, shown_pair}
use Rattle.data_nodes.proofs.StorageTypes.{IsOther, along_pairs, maps-map, maps-pair, with_maps-map, with_maps-other, with_maps-pair}

-- ---- places of big maps, as `is_placed` counts them

pub placing-pair : (s u : Ty) → placing (kind.Pair s u) ≡ placing_level (ty.Pair (placing s) (placing u))
placing-pair s u = fold-at placing_level (kind.Pair s u) (ty.Pair s u) (shows_pair s u)

pub placing-map : (k w : Ty) → placing (kind.BigMap k w) ≡ placing_level (ty.BigMap (placing k) (placing w))
placing-map k w = fold-at placing_level (kind.BigMap k w) (ty.BigMap k w) (shows_big_map k w)

no_places : (x : Ty-F Ty) → ((s u : Ty) → x ≡ ty.Pair s u → ⊥) → ((k w : Ty) → x ≡ ty.BigMap k w → ⊥) → placing_level (map-Ty Ty Placing placing x) ≡ (0, λ first v. true)
no_places (ty.Pair s u) p q = absurd (p s u refl)
no_places (ty.BigMap k w) p q = absurd (q k w refl)
no_places _ p q = refl

pub placing-other : (t : Ty) → IsOther t → placing t ≡ (0, λ first v. true)
placing-other t o = fold-at placing_level t (out-Ty t) refl ∙ no_places (out-Ty t) (λ s u e. o.no_pair s u (rolls_pair t s u e)) (λ k w e. o.no_map k w (rolls_big_map t k w e))

abbrev IsCounted : Ty → Type 0
IsCounted t = (placing t).0 ≡ length (big_maps_of t)

counted : (t : Ty) → IsCounted t
counted = along_pairs IsCounted
    (λ s u left right. ap (λ (p : Placing). p.0) (placing-pair s u) ∙ (λ i. left i + right i) ∙ sym (count-pair (kind.Pair s u) s u refl))
    (λ k w. ap (λ (p : Placing). p.0) (placing-map k w) ∙ sym (ap length (maps-map k w)))
    (λ t o. ap (λ (p : Placing). p.0) (placing-other t o) ∙ sym (ap length (no_maps t o.no_pair o.no_map)))

shown_big_map : (place version : ℕ) → out-Val (value.BigMap place version) ≡ one.BigMap place version
shown_big_map place version = ap out-Val (sym (value.rolls-BigMap place version)) ∙ out-roll (one.BigMap place version)

-- a pair is placed where its parts are, the second behind the first
pub placed-pair : (s u : Ty) (first : ℕ) (a b : Val) → (placing (kind.Pair s u)).1 first (value.Pair a b) ≡ ((placing s).1 first a && (placing u).1 (first + length (big_maps_of s)) b)
placed-pair s u first a b =
    ap (λ (p : Placing). p.1 first (value.Pair a b)) (placing-pair s u) ∙ ap (is_placed_pair (placing s) (placing u) first) (shown_pair a b)
    ∙ ap (λ (k : ℕ). (placing s).1 first a && (placing u).1 (first + k) b) (counted s)

pub placed-map : (k w : Ty) (first place version : ℕ) → (placing (kind.BigMap k w)).1 first (value.BigMap place version) ≡ (place == first)
placed-map k w first place version =
    ap (λ (p : Placing). p.1 first (value.BigMap place version)) (placing-map k w) ∙ ap (is_at_place first) (shown_big_map place version)

-- ---- the types that stand at a place

module _ {A : Type 0} (P : A → Type 0) where
  some_first : (xs ys : List A) (i : ℕ) → IsSomeAnd (slice_get xs i) P → IsSomeAnd (slice_get (xs ++ ys) i) P
  some_first [] ys i h = absurd h
  some_first (x ∷ xs) ys zero h = h
  some_first (x ∷ xs) ys (suc i) h = some_first xs ys i h

  some_second : (xs ys : List A) (i k : ℕ) → k ≡ length xs + i → IsSomeAnd (slice_get ys i) P → IsSomeAnd (slice_get (xs ++ ys) k) P
  some_second [] ys i k e h = let same : i ≡ k = omega (arith, e) in subst (λ (n : ℕ). IsSomeAnd (slice_get ys n) P) same h
  some_second (x ∷ xs) ys i zero e h = absurd (omega (arith, e))
  some_second (x ∷ xs) ys i (suc k) e h = some_second xs ys i k (omega (arith, e)) h

  pub some_within : (xs : List A) (i : ℕ) → IsSomeAnd (slice_get xs i) P → i < length xs
  some_within [] i h = absurd h
  some_within (x ∷ xs) zero h = omega arith
  some_within (x ∷ xs) (suc i) h = omega (arith, some_within xs i h)

-- the entry is one of these big maps, the first of which has this place
abbrev IsEntryFrom : ℕ → List (Ty × Ty) → Entry → Type 0
IsEntryFrom first maps e = (i : ℕ) × (e.0 ≡ first + i) × IsEntryOf maps (i, e.1, e.2)

abbrev IsPlainEntry : Entry → Type 0
IsPlainEntry e = IsTrue (is_plain e.1) × IsTrue (is_plain e.2)

abbrev types_fit : Entry → Ty × Ty → Type 0
types_fit e types = IsTrue (has_type e.1 types.0) × IsTrue (has_type e.2 types.1)

module _ (first : ℕ) (s u : Ty) where
  abbrev behind : ℕ
  behind = first + length (big_maps_of s)

  in_first : (e : Entry) → IsEntryFrom first (big_maps_of s) e → IsEntryFrom first (big_maps_of (kind.Pair s u)) e
  in_first e h =
      subst (λ (maps : List (Ty × Ty)). IsEntryFrom first maps e) (sym (maps-pair s u)) (h.0, h.1, some_first (types_fit e) (big_maps_of s) (big_maps_of u) h.0 h.2)

  in_second : (e : Entry) → IsEntryFrom behind (big_maps_of u) e → IsEntryFrom first (big_maps_of (kind.Pair s u)) e
  in_second e h =
      let place : e.0 ≡ first + (length (big_maps_of s) + h.0) = omega (arith, h.1) in
      subst (λ (maps : List (Ty × Ty)). IsEntryFrom first maps e) (sym (maps-pair s u))
      (length (big_maps_of s) + h.0, place, some_second (types_fit e) (big_maps_of s) (big_maps_of u) h.0 (length (big_maps_of s) + h.0) refl h.2)

  stands_before : (e : Entry) → IsEntryFrom first (big_maps_of s) e → e.0 < behind
  stands_before e h = omega (arith, h.1, some_within (types_fit e) (big_maps_of s) h.0 h.2)

  stands_behind : (e : Entry) → IsEntryFrom behind (big_maps_of u) e → behind ≤ e.0
  stands_behind e h = omega (arith, h.1)

-- ---- what is kept of a value

-- it is kept as it should be, and its entries give back the value
record IsGood (t : Ty) (first : ℕ) (v : Val) (kept : Kept) : Type 0 where
  pub typed : IsTrue (has_type kept.0 t)
  pub placed : (placing t).1 first kept.0 ≡ true
  pub plain : IsTrue (is_plain kept.0)
  pub entries : AllByRecursion (IsEntryFrom first (big_maps_of t)) kept.1
  pub plain_entries : AllByRecursion IsPlainEntry kept.1
  pub ascending : entries_ascend kept.1 ≡ true
  pub countable : (place : ℕ) → is_countable (entries_at place kept.1) ≡ true
  pub back : (all : List Entry) → ((i : ℕ) → i < length (big_maps_of t) → entries_at (first + i) all ≡ entries_at (first + i) kept.1) → with_entries all kept.0 ≡ v

module _ (s u : Ty) (first : ℕ) (a b : Val) (x y : Kept) (left : IsGood s first a x) (right : IsGood u (first + length (big_maps_of s)) b y) where
  abbrev start : ℕ
  start = first + length (big_maps_of s)

  only_left : (place : ℕ) → place < start → entries_at place (x.1 ++ y.1) ≡ entries_at place x.1
  only_left place below =
      let none : entries_at place y.1 ≡ [] = at-none place y.1 (all_entries (IsEntryFrom start (big_maps_of u)) _ (λ e h. inr (omega (arith, below, stands_behind first s u e h))) y.1 right.entries) in
      at-append place x.1 y.1 ∙ ap (λ (l : List (Val × Val)). entries_at place x.1 ++ l) none ∙ append-nil (entries_at place x.1)

  only_right : (place : ℕ) → start ≤ place → entries_at place (x.1 ++ y.1) ≡ entries_at place y.1
  only_right place above =
      let none : entries_at place x.1 ≡ [] = at-none place x.1 (all_entries (IsEntryFrom first (big_maps_of s)) _ (λ e h. inl (omega (arith, above, stands_before first s u e h))) x.1 left.entries) in
      at-append place x.1 y.1 ∙ ap (λ (l : List (Val × Val)). l ++ entries_at place y.1) none

  few_at : (place : ℕ) → (place < start) ⊎ (start ≤ place) → is_countable (entries_at place (x.1 ++ y.1)) ≡ true
  few_at place (inl below) = ap (λ (l : List (Val × Val)). is_countable l) (only_left place below) ∙ left.countable place
  few_at place (inr above) = ap (λ (l : List (Val × Val)). is_countable l) (only_right place above) ∙ right.countable place

  abbrev Agrees : List Entry → Type 0
  Agrees all = (i : ℕ) → i < length (big_maps_of (kind.Pair s u)) → entries_at (first + i) all ≡ entries_at (first + i) (x.1 ++ y.1)

  agree_left : (all : List Entry) → Agrees all → (i : ℕ) → i < length (big_maps_of s) → entries_at (first + i) all ≡ entries_at (first + i) x.1
  agree_left all agrees i lt =
      agrees i (omega (arith, lt, count-pair (kind.Pair s u) s u refl)) ∙ only_left (first + i) (omega (arith, lt))

  agree_right : (all : List Entry) → Agrees all → (i : ℕ) → i < length (big_maps_of u) → entries_at (start + i) all ≡ entries_at (start + i) y.1
  agree_right all agrees i lt =
      let same : start + i ≡ first + (length (big_maps_of s) + i) = omega arith in
      ap (λ (k : ℕ). entries_at k all) same ∙ agrees (length (big_maps_of s) + i) (omega (arith, lt, count-pair (kind.Pair s u) s u refl))
      ∙ sym (ap (λ (k : ℕ). entries_at k (x.1 ++ y.1)) same) ∙ only_right (start + i) (omega arith)

  pair_good : IsGood (kind.Pair s u) first (value.Pair a b) (joined x y)
  pair_good = record {
    typed = has_type-pair x.0 y.0 s u ∙ and_from _ _ left.typed right.typed;
    placed = placed-pair s u first x.0 y.0 ∙ and_from _ _ left.placed right.placed;
    plain = plain-pair x.0 y.0 ∙ and_from _ _ left.plain right.plain;
    entries = all_append _ x.1 y.1 (all_entries _ _ (in_first first s u) x.1 left.entries) (all_entries _ _ (in_second first s u) y.1 right.entries);
    plain_entries = all_append _ x.1 y.1 left.plain_entries right.plain_entries;
    ascending = ascend-append start x.1 y.1 left.ascending right.ascending (all_entries _ _ (stands_before first s u) x.1 left.entries) (all_entries _ _ (stands_behind first s u) y.1 right.entries);
    countable = λ place. few_at place (cases_lt place start);
    back = λ all agrees. joined-pair all x.0 y.0 ∙ (λ i. value.Pair (left.back all (agree_left all agrees) i) (right.back all (agree_right all agrees) i));
  }

-- ---- big maps

module _ (k w : Ty) (first : ℕ) where
  from_map : (es : List (Val × Val)) → IsTrue (list_all (λ e. has_type e.0 k && has_type e.1 w) es) → AllByRecursion (λ e. IsEntryFrom first ((k, w) ∷ []) (first, e.0, e.1)) es
  from_map [] h = tt
  from_map (e ∷ es) h =
      let both = and_parts (has_type e.0 k && has_type e.1 w) _ h in
      let types = and_parts (has_type e.0 k) (has_type e.1 w) both.0 in
      let place : first ≡ first + 0 = omega arith in
      ((0, place, types), from_map es both.1)

plain_of : (place : ℕ) (es : List (Val × Val)) → list_all is_plain (flat es) ≡ true → AllByRecursion (λ e. IsPlainEntry (place, e.0, e.1)) es
plain_of place [] h = tt
plain_of place (e ∷ es) h =
    let key = and_parts (is_plain e.0) _ h in
    let both = and_parts (is_plain e.1) _ key.1 in
    ((key.0, both.0), plain_of place es both.1)

always : (P : Type 0) → P → (es : List (Val × Val)) → AllByRecursion (λ e. P) es
always P h [] = tt
always P h (e ∷ es) = (h, always P h es)

none_elsewhere : (first place : ℕ) (es : List (Val × Val)) → (first < place) ⊎ (place < first) → is_countable (entries_at place (tagged first es)) ≡ true
none_elsewhere first place es other =
    ap (λ (l : List (Val × Val)). is_countable l)
    (at-none place (tagged first es) (all_tagged (λ e. (e.0 < place) ⊎ (place < e.0)) first es (always ((first < place) ⊎ (place < first)) other es)))

few_tagged : (first : ℕ) (es : List (Val × Val)) → is_countable es ≡ true → (place : ℕ) → (first < place) ⊎ (place ≤ first) → (place < first) ⊎ (first ≤ place) → is_countable (entries_at place (tagged first es)) ≡ true
few_tagged first es few place (inl above) b = none_elsewhere first place es (inl above)
few_tagged first es few place (inr a) (inl below) = none_elsewhere first place es (inr below)
few_tagged first es few place (inr a) (inr b) =
    let same : place ≡ first = omega (arith, a, b) in
    ap (λ (k : ℕ). is_countable (entries_at k (tagged first es))) same ∙ ap (λ (l : List (Val × Val)). is_countable l) (at-tagged first es) ∙ few

-- a map's parts, as its type and its plainness tell them
record MapParts (k w : Ty) (es : List (Val × Val)) : Type 0 where
  countable : is_countable es ≡ true
  ascending : ascends (map (λ e. e.0) es) ≡ true
  of_types : IsTrue (list_all (λ e. has_type e.0 k && has_type e.1 w) es)
  plain : list_all is_plain (flat es) ≡ true

map_good : (k w : Ty) (first : ℕ) (es : List (Val × Val)) → first < 16 → MapParts k w es → IsGood (kind.BigMap k w) first (value.Map es) (value.BigMap first 0, tagged first es)
map_good k w first es below p = record {
  typed = has_type-big_map first 0 k w ∙ lt-ltb first 16 below;
  placed = placed-map k w first first 0 ∙ nat_eq_equiv.refl first;
  plain = plain-big_map first 0 ∙ and_from _ _ (lt-ltb first 16 below) refl;
  entries = subst (λ (maps : List (Ty × Ty)). AllByRecursion (IsEntryFrom first maps) (tagged first es)) (sym (maps-map k w))
      (all_tagged (IsEntryFrom first ((k, w) ∷ [])) first es (from_map k w first es p.of_types));
  plain_entries = all_tagged IsPlainEntry first es (plain_of first es p.plain);
  ascending = ascend-tagged first es ∙ p.ascending;
  countable = λ place. few_tagged first es p.countable place (cases_lt first place) (cases_lt place first);
  back = λ all agrees.
      let one : 0 < length (big_maps_of (kind.BigMap k w)) = omega (arith, ap length (maps-map k w)) in
      let here : first + 0 ≡ first = omega arith in
      joined-map all first 0 ∙ ap value.Map (sym (ap (λ (n : ℕ). entries_at n all) here) ∙ agrees 0 one ∙ ap (λ (n : ℕ). entries_at n (tagged first es)) here ∙ at-tagged first es);
}

-- ---- each type

abbrev Keeps : Ty → Type 0
Keeps t = (first : ℕ) (v : Val) → first + length (big_maps_of t) ≤ 16 → IsTrue (has_type v (with_maps t)) → is_plain v ≡ true → IsGood t first v ((parting t).1 first v)

keeps_pair : (s u : Ty) → Keeps s → Keeps u → Keeps (kind.Pair s u)
keeps_pair s u left right first v few typed plain =
    let p = of_pair v (with_maps s) (with_maps u) (sym (ap (has_type v) (with_maps-pair s u)) ∙ typed) in
    let both = and_parts (is_plain p.0) (is_plain p.1) (sym (plain-pair p.0 p.1) ∙ sym (ap is_plain p.2) ∙ plain) in
    let count = count-pair (kind.Pair s u) s u refl in
    let good_left = left first p.0 (omega (arith, few, count)) p.3 both.0 in
    let good_right = right (first + length (big_maps_of s)) p.1 (omega (arith, few, count)) p.4 both.1 in
    subst (λ (w : Val). IsGood (kind.Pair s u) first w ((parting (kind.Pair s u)).1 first w)) (sym p.2)
    (subst (IsGood (kind.Pair s u) first (value.Pair p.0 p.1)) (sym (parted-pair s u first p.0 p.1)) (pair_good s u first p.0 p.1 _ _ good_left good_right))

keeps_map : (k w : Ty) → Keeps (kind.BigMap k w)
keeps_map k w first v few typed plain =
    let p = of_map v k w (sym (ap (has_type v) (with_maps-map k w)) ∙ typed) in
    let flat_plain = (and_parts (is_countable p.0 && ascends (map (λ e. e.0) p.0)) _ (sym (plain-map p.0) ∙ sym (ap is_plain p.1) ∙ plain)).1 in
    let parts : MapParts k w p.0 = record { countable = p.2; ascending = p.3; of_types = p.4; plain = flat_plain } in
    subst (λ (m : Val). IsGood (kind.BigMap k w) first m ((parting (kind.BigMap k w)).1 first m)) (sym p.1)
    (subst (IsGood (kind.BigMap k w) first (value.Map p.0)) (sym (parted-map k w first p.0)) (map_good k w first p.0 (omega (arith, few, ap length (maps-map k w))) parts))

keeps_other : (t : Ty) → IsOther t → Keeps t
keeps_other t o first v few typed plain =
    let is_typed : IsTrue (has_type v t) = sym (ap (has_type v) (with_maps-other t o)) ∙ typed in
    subst (IsGood t first v) (sym (parted-other t o first v)) (record {
      typed = is_typed;
      placed = ap (λ (p : Placing). p.1 first v) (placing-other t o);
      plain = plain;
      entries = tt;
      plain_entries = tt;
      ascending = refl;
      countable = λ place. refl;
      back = λ all agrees. joined-other all t v o is_typed;
    })

keeps : (t : Ty) → Keeps t
keeps = along_pairs Keeps keeps_pair keeps_map keeps_other

-- ---- storages

at_its_place : (maps : List (Ty × Ty)) (e : Entry) → IsEntryFrom 0 maps e → IsEntryOf maps e
at_its_place maps e h = let same : h.0 ≡ e.0 = omega (arith, h.1) in subst (λ (i : ℕ). IsEntryOf maps (i, e.1, e.2)) same h.2

-- what is kept of a plain value of the type that is written, and that its entries give it back
pub record IsPartedWell (t : Ty) (v : Val) : Type 0 where
  pub kept : IsKept t (parted t v)
  pub plain : AllByRecursion (λ e. IsTrue (is_plain e.1) × IsTrue (is_plain e.2)) (parted t v).1
  pub back : with_entries (parted t v).1 (parted t v).0 ≡ v

pub parted_well : (t : Ty) (v : Val) → length (big_maps_of t) ≤ 16 → IsTrue (has_type v (with_maps t)) → IsTrue (is_plain v) → IsPartedWell t v
parted_well t v few typed plain =
    let good = keeps t 0 v (omega (arith, few)) typed plain in
    record {
      kept = record {
        typed = good.typed;
        placed = good.placed;
        plain = good.plain;
        entries = all_entries (IsEntryFrom 0 (big_maps_of t)) (IsEntryOf (big_maps_of t)) (at_its_place (big_maps_of t)) (parted t v).1 good.entries;
        ascending = good.ascending;
        countable = good.countable;
      };
      plain = good.plain_entries;
      back = good.back (parted t v).1 (λ i lt. refl);
    }
