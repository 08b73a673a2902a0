-- Sets and maps of values after an insertion or a removal: their order, soundness, types and sizes.
use Rattle.std.proofs.Common.{◌≡◌, ℕ, ◌+◌, ◌^◌, ◌≤◌, Bool, true, false, cond, ◌&&◌, T, List, [], ◌∷◌, map, length, Some, None, refl, sym, ap, ◌∙◌, arith}
use Rattle.std.specs.Prelude.{IsTrue, ◌↔◌, nat_lt}
use Rattle.std.specs.declared.cmp.Ordering.{Ordering}
use Rattle.std.specs.declared.cmp.Ordering.TheVariants.{Less, Equal, Greater}
use Rattle.std.specs.Ordering.{is_lt}
use Rattle.std.specs.Cmp.{IsTotalOrder}
use Rattle.std.specs.List.{AllByRecursion, filter, list_all}
use Rattle.std.specs.List.Sorted.{IsStrictlySortedBy}
use Rattle.std.specs.FinMap.{IsAntisymmetric}
use Rattle.std.specs.FinMap.Entries.{below_all, find, put, is_sorted, is_sorted-put, is_sorted-where_key}
use Rattle.std.proofs.lemmas.List.Sums.{length-filter, count_by-le-length}
use Rattle.std.proofs.lemmas.Bool.Decides.{nat_tests}
use Rattle.value_core.specs.declared.val.Val.{Val}
use Rattle.value_core.specs.declared.val.Val.TheVariants as variant
use Rattle.value_core.specs.declared.ty.Ty.{Ty}
use Rattle.value_core.specs.declared.ty.Ty.TheVariants as kind
use Rattle.value_core.specs.Layer.{flat}
use Rattle.value_core.specs.Order.{order}
use Rattle.value_core.specs.Size.{entry_size, size_of}
use Rattle.value_core.specs.Sound.{ascends, is_countable, is_sound}
use Rattle.value_core.specs.SoundParts.{is_sound_map, is_sound_set}
use Rattle.value_core.specs.Typed.{fits, has_type}
use Rattle.value_core.specs.Sorted.{has, keys_of, with_key, without, without_key}
use Rattle.value_core.proofs.SoundLemmas.{sound-map, sound-set}
use Rattle.value_core.proofs.Sizes.{size-map, size-set}
use Rattle.value_core.proofs.TypedLemmas.{fits-map, fits-set}
use Rattle.value_core.proofs.TotalOrder.{order_lawful}
use Rattle.value_core.proofs.Bools.{both_true, first_true, second_true, T_of, true_of}
use Rattle.value_core.proofs.SortedEntries.{all-filter, all-put, both, weight, weight-is, weight-put_new, weight-put_old, weight-without}
use Rattle.value_core.proofs.SortedKeys.{all-with, keys-units, sorted-with, sum-with, sum-without_key, units, units-with, units-without}

pub total : IsTotalOrder order
total = order_lawful.0

pub ties : IsAntisymmetric order
ties = order_lawful.1

-- ---- from one to the next, and to all after it

is_less : (r : Ordering) → is_lt r ≡ true → r ≡ Less
is_less Less e = refl
is_less Equal e = absurd cc
is_less Greater e = absurd cc

suffices : (p a b s : Bool) → (p ≡ true → b ≡ true → a ≡ true) → (p && (b && s)) ≡ ((p && a) && (b && s))
suffices false a b s h = refl
suffices true true b s h = refl
suffices true false false s h = refl
suffices true false true s h = let no : false ≡ true = h refl refl in absurd cc

below_less : {X : Type 0} (x y : Val) (es : List (Val × X)) → is_lt (order x y) ≡ true → below_all order y es ≡ true → below_all order x es ≡ true
below_less x y [] low h = refl
below_less x y (e ∷ es) low h =
    both_true (is_lt (order x e.0)) (below_all order x es)
    (ap is_lt (total.trans x y e.0 (is_less (order x y) low) (is_less (order y e.0) (first_true (is_lt (order y e.0)) (below_all order y es) h))))
    (below_less x y es low (second_true (is_lt (order y e.0)) (below_all order y es) h))

pub ascends-keys : {X : Type 0} (es : List (Val × X)) → ascends (map (λ e. e.0) es) ≡ is_sorted order es
ascends-keys [] = refl
ascends-keys (a ∷ []) = refl
ascends-keys (a ∷ b ∷ es) =
    ap (λ r. is_lt (order a.0 b.0) && r) (ascends-keys (b ∷ es))
    ∙ suffices (is_lt (order a.0 b.0)) (below_all order a.0 es) (below_all order b.0 es) (is_sorted order es) (λ low h. below_less a.0 b.0 es low h)

pub ascends-units : (vs : List Val) → ascends vs ≡ is_sorted order (units vs)
ascends-units vs = ap ascends (sym (keys-units vs)) ∙ ascends-keys (units vs)

all_above : (x y : Val) (vs : List Val) → order x y ≡ Less → AllByRecursion (λ v. order y v ≡ Less) vs → AllByRecursion (λ v. order x v ≡ Less) vs
all_above x y [] low h = tt
all_above x y (v ∷ vs) low h = (total.trans x y v low h.0, all_above x y vs low h.1)

strictly : (vs : List Val) → ascends vs ≡ true → IsStrictlySortedBy order vs
unfolding IsStrictlySortedBy
strictly [] h = tt
strictly (a ∷ []) h = (tt, tt)
strictly (a ∷ b ∷ vs) h =
    let low = is_less (order a b) (first_true (is_lt (order a b)) (ascends (b ∷ vs)) h) in
    let rest = strictly (b ∷ vs) (second_true (is_lt (order a b)) (ascends (b ∷ vs)) h) in
    ((low, all_above a b vs low rest.0), rest)

next : (vs : List Val) → IsStrictlySortedBy order vs → ascends vs ≡ true
unfolding IsStrictlySortedBy
next [] h = refl
next (a ∷ []) h = refl
next (a ∷ b ∷ vs) h = both_true (is_lt (order a b)) (ascends (b ∷ vs)) (ap is_lt h.0.0) (next (b ∷ vs) h.1)

pub ascends_is_strict : (vs : List Val) → IsTrue (ascends vs) ↔ IsStrictlySortedBy order vs
ascends_is_strict vs = (strictly vs, next vs)

-- what std's lemmas ask
pub set_order : (vs : List Val) → ascends vs ≡ true → T (is_sorted order (units vs))
set_order vs up = T_of (is_sorted order (units vs)) (sym (ascends-units vs) ∙ up)

pub map_order : (es : List (Val × Val)) → ascends (keys_of es) ≡ true → T (is_sorted order es)
map_order es up = T_of (is_sorted order es) (sym (ascends-keys es) ∙ up)

-- ---- sets

pub ascends-with : (k : Val) (vs : List Val) → ascends vs ≡ true → ascends (with_key order k vs) ≡ true
ascends-with k vs up =
    ascends-units (with_key order k vs) ∙ ap (is_sorted order) (units-with order k vs)
    ∙ true_of (is_sorted order (put order k tt (units vs))) (sorted-with total k vs (set_order vs up))

pub ascends-without_key : (k : Val) (vs : List Val) → ascends vs ≡ true → ascends (without_key order k vs) ≡ true
ascends-without_key k vs up =
    ascends-units (without_key order k vs) ∙ ap (is_sorted order) (units-without order k vs)
    ∙ true_of (is_sorted order (without order k (units vs))) (is_sorted-where_key order _ (units vs) (set_order vs up))

pub size-with : (k : Val) (vs : List Val) → ascends vs ≡ true → size_of (variant.Set (with_key order k vs)) ≡ size_of (variant.Set vs) + cond (has order k vs) 0 (size_of k)
size-with k vs up =
    let grows = sum-with total size_of k vs (set_order vs up) in
    let new = size-set (with_key order k vs) in
    let old = size-set vs in
    omega (arith, grows, new, old)

pub size-without_key : (k : Val) (vs : List Val) → ascends vs ≡ true → size_of (variant.Set (without_key order k vs)) + cond (has order k vs) (size_of k) 0 ≡ size_of (variant.Set vs)
size-without_key k vs up =
    let falls = sum-without_key total size_of ties k vs (set_order vs up) in
    let new = size-set (without_key order k vs) in
    let old = size-set vs in
    omega (arith, falls, new, old)

-- what a sound set is
record SoundSet (vs : List Val) : Type 0 where
  few : is_countable vs ≡ true
  up : ascends vs ≡ true
  each : list_all is_sound vs ≡ true

set_parts : (vs : List Val) → is_sound (variant.Set vs) ≡ true → SoundSet vs
set_parts vs h =
    let is : is_sound_set vs ≡ true = sym (sound-set vs) ∙ h in
    let front = first_true (is_countable vs && ascends vs) (list_all is_sound vs) is in
    record { few = first_true (is_countable vs) (ascends vs) front; up = second_true (is_countable vs) (ascends vs) front; each = second_true (is_countable vs && ascends vs) (list_all is_sound vs) is }

set_of : (vs : List Val) → SoundSet vs → is_sound (variant.Set vs) ≡ true
set_of vs s = sound-set vs ∙ both_true (is_countable vs && ascends vs) (list_all is_sound vs) (both_true (is_countable vs) (ascends vs) s.few s.up) s.each

pub sound-with : (k : Val) (vs : List Val) → is_sound (variant.Set vs) ≡ true → is_sound k ≡ true → is_countable (with_key order k vs) ≡ true → is_sound (variant.Set (with_key order k vs)) ≡ true
sound-with k vs h key few =
    let s = set_parts vs h in
    set_of (with_key order k vs) (record { few = few; up = ascends-with k vs s.up; each = all-with order is_sound k vs key s.each })

fewer : (m n limit : ℕ) → m ≤ n → nat_lt n limit ≡ true → nat_lt m limit ≡ true
fewer m n limit le h = grind (arith, nat_tests)

countable-filter : {A : Type 0} (test : A → Bool) (xs : List A) → is_countable xs ≡ true → is_countable (filter test xs) ≡ true
countable-filter test xs few = fewer (length (filter test xs)) (length xs) (2 ^ 32) (omega (arith, length-filter test xs, count_by-le-length test xs)) few

pub sound-without_key : (k : Val) (vs : List Val) → is_sound (variant.Set vs) ≡ true → is_sound (variant.Set (without_key order k vs)) ≡ true
sound-without_key k vs h =
    let s = set_parts vs h in
    set_of (without_key order k vs) (record { few = countable-filter _ vs s.few; up = ascends-without_key k vs s.up; each = all-filter is_sound _ vs s.each })

abbrev fits_item : Ty → Val → Bool
fits_item t v = fits v t

pub typed-with : (t : Ty) (k : Val) (vs : List Val) → has_type (variant.Set vs) (kind.Set t) ≡ true → has_type k t ≡ true → is_countable (with_key order k vs) ≡ true →
    has_type (variant.Set (with_key order k vs)) (kind.Set t) ≡ true
typed-with t k vs h key few =
    let sound = first_true (is_sound (variant.Set vs)) (fits (variant.Set vs) (kind.Set t)) h in
    let each : list_all (fits_item t) vs ≡ true = sym (fits-set vs t) ∙ second_true (is_sound (variant.Set vs)) (fits (variant.Set vs) (kind.Set t)) h in
    both_true (is_sound (variant.Set (with_key order k vs))) (fits (variant.Set (with_key order k vs)) (kind.Set t))
    (sound-with k vs sound (first_true (is_sound k) (fits k t) key) few)
    (fits-set (with_key order k vs) t ∙ all-with order (fits_item t) k vs (second_true (is_sound k) (fits k t) key) each)

pub typed-without_key : (t : Ty) (k : Val) (vs : List Val) → has_type (variant.Set vs) (kind.Set t) ≡ true → has_type (variant.Set (without_key order k vs)) (kind.Set t) ≡ true
typed-without_key t k vs h =
    let sound = first_true (is_sound (variant.Set vs)) (fits (variant.Set vs) (kind.Set t)) h in
    let each : list_all (fits_item t) vs ≡ true = sym (fits-set vs t) ∙ second_true (is_sound (variant.Set vs)) (fits (variant.Set vs) (kind.Set t)) h in
    both_true (is_sound (variant.Set (without_key order k vs))) (fits (variant.Set (without_key order k vs)) (kind.Set t))
    (sound-without_key k vs sound)
    (fits-set (without_key order k vs) t ∙ all-filter (fits_item t) _ vs each)

-- ---- maps

pub ascends-put : (k v : Val) (es : List (Val × Val)) → ascends (keys_of es) ≡ true → ascends (keys_of (put order k v es)) ≡ true
ascends-put k v es up = ascends-keys (put order k v es) ∙ true_of (is_sorted order (put order k v es)) (is_sorted-put order total k v es (map_order es up))

pub ascends-without : (k : Val) (es : List (Val × Val)) → ascends (keys_of es) ≡ true → ascends (keys_of (without order k es)) ≡ true
ascends-without k es up = ascends-keys (without order k es) ∙ true_of (is_sorted order (without order k es)) (is_sorted-where_key order _ es (map_order es up))

size-weight : (es : List (Val × Val)) → size_of (variant.Map es) ≡ 1 + weight size_of size_of es
size-weight es = size-map es ∙ ap (λ n. 1 + n) (sym (weight-is size_of size_of es))

pub size-put_new : (k v : Val) (es : List (Val × Val)) → find order k es ≡ None → size_of (variant.Map (put order k v es)) ≡ size_of (variant.Map es) + entry_size (k, v)
size-put_new k v es none =
    let grows = weight-put_new size_of size_of order k v es none in
    let new = size-weight (put order k v es) in
    let old = size-weight es in
    omega (arith, grows, new, old)

pub size-put_old : (k v w : Val) (es : List (Val × Val)) → ascends (keys_of es) ≡ true → find order k es ≡ Some w → size_of (variant.Map (put order k v es)) + size_of w ≡ size_of (variant.Map es) + size_of v
size-put_old k v w es up found =
    let changes = weight-put_old size_of size_of total k v w es (map_order es up) found in
    let new = size-weight (put order k v es) in
    let old = size-weight es in
    omega (arith, changes, new, old)

pub size-without : (k w : Val) (es : List (Val × Val)) → ascends (keys_of es) ≡ true → find order k es ≡ Some w → size_of (variant.Map (without order k es)) + entry_size (k, w) ≡ size_of (variant.Map es)
size-without k w es up found =
    let falls = weight-without size_of size_of total ties k w es (map_order es up) found in
    let new = size-weight (without order k es) in
    let old = size-weight es in
    omega (arith, falls, new, old)

-- keys and values one by one, and entry by entry
grouped : (a b c : Bool) → (a && (b && c)) ≡ ((a && b) && c)
grouped true b c = refl
grouped false b c = refl

all-flat : (es : List (Val × Val)) → list_all is_sound (flat es) ≡ list_all (both order is_sound is_sound) es
all-flat [] = refl
all-flat (e ∷ es) = ap (λ b. is_sound e.0 && (is_sound e.1 && b)) (all-flat es) ∙ grouped (is_sound e.0) (is_sound e.1) (list_all (both order is_sound is_sound) es)

-- what a sound map is
record SoundMap (es : List (Val × Val)) : Type 0 where
  few : is_countable es ≡ true
  up : ascends (keys_of es) ≡ true
  each : list_all (both order is_sound is_sound) es ≡ true

map_parts : (es : List (Val × Val)) → is_sound (variant.Map es) ≡ true → SoundMap es
map_parts es h =
    let is : is_sound_map es ≡ true = sym (sound-map es) ∙ h in
    let front = first_true (is_countable es && ascends (keys_of es)) (list_all is_sound (flat es)) is in
    record {
      few = first_true (is_countable es) (ascends (keys_of es)) front;
      up = second_true (is_countable es) (ascends (keys_of es)) front;
      each = sym (all-flat es) ∙ second_true (is_countable es && ascends (keys_of es)) (list_all is_sound (flat es)) is;
    }

map_of : (es : List (Val × Val)) → SoundMap es → is_sound (variant.Map es) ≡ true
map_of es s =
    sound-map es ∙ both_true (is_countable es && ascends (keys_of es)) (list_all is_sound (flat es))
    (both_true (is_countable es) (ascends (keys_of es)) s.few s.up) (all-flat es ∙ s.each)

pub sound-put : (k v : Val) (es : List (Val × Val)) → is_sound (variant.Map es) ≡ true → is_sound k ≡ true → is_sound v ≡ true → is_countable (put order k v es) ≡ true →
    is_sound (variant.Map (put order k v es)) ≡ true
sound-put k v es h key value few =
    let s = map_parts es h in
    map_of (put order k v es) (record { few = few; up = ascends-put k v es s.up; each = all-put order is_sound is_sound k v es key value s.each })

pub sound-without : (k : Val) (es : List (Val × Val)) → is_sound (variant.Map es) ≡ true → is_sound (variant.Map (without order k es)) ≡ true
sound-without k es h =
    let s = map_parts es h in
    map_of (without order k es) (record { few = countable-filter _ es s.few; up = ascends-without k es s.up; each = all-filter (both order is_sound is_sound) _ es s.each })

module _ (s t : Ty) where
  abbrev fits_both : Val × Val → Bool
  fits_both = both order (fits_item s) (fits_item t)

  entries_fit : (es : List (Val × Val)) → has_type (variant.Map es) (kind.Map s t) ≡ true → list_all fits_both es ≡ true
  entries_fit es h = sym (fits-map es s t) ∙ second_true (is_sound (variant.Map es)) (fits (variant.Map es) (kind.Map s t)) h

  typed_of : (es : List (Val × Val)) → is_sound (variant.Map es) ≡ true → list_all fits_both es ≡ true → has_type (variant.Map es) (kind.Map s t) ≡ true
  typed_of es sound each = both_true (is_sound (variant.Map es)) (fits (variant.Map es) (kind.Map s t)) sound (fits-map es s t ∙ each)

  pub typed-put : (k v : Val) (es : List (Val × Val)) → has_type (variant.Map es) (kind.Map s t) ≡ true → has_type k s ≡ true → has_type v t ≡ true → is_countable (put order k v es) ≡ true →
      has_type (variant.Map (put order k v es)) (kind.Map s t) ≡ true
  typed-put k v es h key value few =
      typed_of (put order k v es)
      (sound-put k v es (first_true (is_sound (variant.Map es)) (fits (variant.Map es) (kind.Map s t)) h) (first_true (is_sound k) (fits k s) key) (first_true (is_sound v) (fits v t) value) few)
      (all-put order (fits_item s) (fits_item t) k v es (second_true (is_sound k) (fits k s) key) (second_true (is_sound v) (fits v t) value) (entries_fit es h))

  pub typed-without : (k : Val) (es : List (Val × Val)) → has_type (variant.Map es) (kind.Map s t) ≡ true → has_type (variant.Map (without order k es)) (kind.Map s t) ≡ true
  typed-without k es h =
      typed_of (without order k es)
      (sound-without k es (first_true (is_sound (variant.Map es)) (fits (variant.Map es) (kind.Map s t)) h))
      (all-filter fits_both _ es (entries_fit es h))
