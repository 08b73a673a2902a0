-- Sets and maps of values by the places of their keys.
use Rattle.std.proofs.Common.{◌≡◌, ℕ, zero, suc, ◌+◌, ◌<◌, true, List, [], ◌∷◌, length, get_or, Result, Ok, Err, Some, None, refl, sym, ap, subst, ◌∙◌, arith}
use Rattle.std.specs.Prelude.{IsTrue, remove, is_ok, slice_get}
use Rattle.std.specs.declared.cmp.Ordering.TheVariants.{Less}
use Rattle.std.specs.Ordering.{is_lt}
use Rattle.std.specs.List.Sorted.{IsBinarySearchResult, IsSearchInRange, IsSortedBy}
use Rattle.std.specs.FinMap.{find, is_sorted}
use Rattle.std.proofs.lemmas.Option.{slice_get-get_or}
use Rattle.value_core.specs.declared.val.Val.{Val}
use Rattle.value_core.specs.Order.{order}
use Rattle.value_core.specs.Places.{IsGap, IsPlace, StandsAt}
use Rattle.value_core.specs.Sorted.{has, keys_of, without, without_key}
use Rattle.value_core.specs.Sound.{ascends}
use Rattle.value_core.proofs.PlaceLemmas.{find-gap, find-place, has-gap, has-place, removed-place, rises, sorted_by, stands}
use Rattle.value_core.proofs.SortedEntries.{without_absent}
use Rattle.value_core.proofs.SortedKeys.{length-units, units, without_key_absent}
use Rattle.value_core.proofs.SortedValues.{ascends-keys, ascends-units, ties, total}

-- ---- maps

pub in_order : (es : List (Val × Val)) → ascends (keys_of es) ≡ true → is_sorted order es ≡ true
in_order es up = sym (ascends-keys es) ∙ up

pub map_stands : (es : List (Val × Val)) (q : Val) (r : Result ℕ ℕ) → ascends (keys_of es) ≡ true → IsSearchInRange r (length es) → IsBinarySearchResult (λ e. order e.0 q) es r → StandsAt (λ e. e.0) order es q r
map_stands es q r up within found = stands total ties (λ e. e.0) es q r (sorted_by total es (in_order es up)) within found

-- a place found where the list is ascending, as a place of a list that is it
pub map_found : (l es : List (Val × Val)) (q : Val) (r : Result ℕ ℕ) → l ≡ es → IsTrue (ascends (keys_of es)) → (IsTrue (ascends (keys_of l)) → StandsAt (λ e. e.0) order l q r) → StandsAt (λ e. e.0) order es q r
map_found l es q r same up found = subst (λ (m : List (Val × Val)). IsTrue (ascends (keys_of m)) → StandsAt (λ e. e.0) order m q r) same found up

pub map_at : (es : List (Val × Val)) (q : Val) (i : ℕ) (d : Val × Val) → ascends (keys_of es) ≡ true → IsPlace (λ e. e.0) es q i → Some (get_or es i d).1 ≡ find order q es
map_at es q i d up p = sym (find-place total es q i d (in_order es up) p)

pub map_lacks : (es : List (Val × Val)) (q : Val) (i : ℕ) → IsGap (λ e. e.0) order es q i → None ≡ find order q es
map_lacks es q i g = sym (find-gap total es q i g)

pub map_without : (es : List (Val × Val)) (q : Val) (i : ℕ) → ascends (keys_of es) ≡ true → IsPlace (λ e. e.0) es q i → remove es i ≡ without order q es
map_without es q i up p = sym (removed-place total (λ e. e.0) es q i (λ j k d lt small. rises total es j k d (in_order es up) lt small) p)

pub map_stays : (es : List (Val × Val)) (q : Val) (i : ℕ) → IsGap (λ e. e.0) order es q i → es ≡ without order q es
map_stays es q i g = sym (without_absent order q es (find-gap total es q i g))

some_is : {A : Type 0} (x y : A) → Some x ≡ Some y → x ≡ y
some_is x y e = cc

pub map_taken : (es : List (Val × Val)) (q : Val) (i : ℕ) (e : Val × Val) → ascends (keys_of es) ≡ true → IsPlace (λ e. e.0) es q i → slice_get es i ≡ Some e → Some e.1 ≡ find order q es
map_taken es q i e up p read = ap (λ (x : Val × Val). Some x.1) (some_is e (get_or es i e) (sym read ∙ slice_get-get_or es i e p.within)) ∙ map_at es q i e up p

-- ---- sets

units-at : (vs : List Val) (k : ℕ) (d : Val) → (get_or (units vs) k (d, tt)).0 ≡ get_or vs k d
units-at [] k d = refl
units-at (v ∷ vs) zero d = refl
units-at (v ∷ vs) (suc k) d = units-at vs k d

units_in_order : (vs : List Val) → ascends vs ≡ true → is_sorted order (units vs) ≡ true
units_in_order vs up = sym (ascends-units vs) ∙ up

set_sorted : (vs : List Val) → ascends vs ≡ true → IsSortedBy (λ a b. is_lt (order a b)) vs
set_sorted vs up k d low high =
    let within : k + 1 < length (units vs) = omega (arith, high, length-units vs) in
    (λ i. is_lt (order (sym (units-at vs (k + 1) d) i) (sym (units-at vs k d) i))) ∙ sorted_by total (units vs) (units_in_order vs up) k (d, tt) low within

pub set_rises : (vs : List Val) (j k : ℕ) (d : Val) → ascends vs ≡ true → j < k → k < length vs → order (get_or vs j d) (get_or vs k d) ≡ Less
set_rises vs j k d up lt small =
    let within : k < length (units vs) = omega (arith, small, length-units vs) in
    (λ i. order (sym (units-at vs j d) i) (sym (units-at vs k d) i)) ∙ rises total (units vs) j k (d, tt) (units_in_order vs up) lt within

pub set_stands : (vs : List Val) (q : Val) (r : Result ℕ ℕ) → ascends vs ≡ true → IsSearchInRange r (length vs) → IsBinarySearchResult (λ v. order v q) vs r → StandsAt (λ v. v) order vs q r
set_stands vs q r up within found = stands total ties (λ v. v) vs q r (set_sorted vs up) within found

pub set_found : (l vs : List Val) (q : Val) (r : Result ℕ ℕ) → l ≡ vs → IsTrue (ascends vs) → (IsTrue (ascends l) → StandsAt (λ v. v) order l q r) → StandsAt (λ v. v) order vs q r
set_found l vs q r same up found = subst (λ m. IsTrue (ascends m) → StandsAt (λ v. v) order m q r) same found up

pub set_told : (vs : List Val) (q : Val) (r : Result ℕ ℕ) → StandsAt (λ v. v) order vs q r → is_ok r ≡ has order q vs
set_told vs q (Ok i) p = sym (has-place total vs q i p)
set_told vs q (Err i) g = sym (has-gap total vs q i g)

pub set_without : (vs : List Val) (q : Val) (i : ℕ) → ascends vs ≡ true → IsPlace (λ v. v) vs q i → remove vs i ≡ without_key order q vs
set_without vs q i up p = sym (removed-place total (λ v. v) vs q i (λ j k d lt small. set_rises vs j k d up lt small) p)

pub set_stays : (vs : List Val) (q : Val) (i : ℕ) → IsGap (λ v. v) order vs q i → vs ≡ without_key order q vs
set_stays vs q i g = sym (without_key_absent order q vs (has-gap total vs q i g))
