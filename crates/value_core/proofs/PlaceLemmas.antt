-- What is found, put and taken out among items in the order of their keys, by the place of the key.
use Rattle.std.proofs.Common.{◌≡◌, ℕ, zero, suc, ◌+◌, ◌<◌, ◌≤◌, Bool, true, false, not, cond, List, [], ◌∷◌, length, get_or, set, Result, Ok, Err, Some, None, Ordering, refl, sym, ap, subst, ◌∙◌, arith, inl, inr}
use Rattle.std.specs.Prelude.{IsTrue, ◌||◌, insert, remove}
use Rattle.std.specs.declared.cmp.Ordering.TheVariants.{Less, Equal, Greater}
use Rattle.std.specs.Ordering.{is_lt, is_eq, eq_by_cmp, ordering_reverse}
use Rattle.std.specs.Cmp.{IsTotalOrder, tied_itself}
use Rattle.std.specs.List.{filter}
use Rattle.std.specs.List.Sorted.{IsBinarySearchResult, IsSearchInRange, IsSortedBy}
use Rattle.std.specs.FinMap.{IsAntisymmetric, find, put, is_sorted}
use Rattle.std.specs.FinMap.Entries.{below_all, by_order}
use Rattle.std.proofs.lemmas.List.Sorted.{searchable_from_sorted}
use Rattle.std.proofs.lemmas.Bool.{and_parts, cases_lt}
use Rattle.value_core.specs.Places.{IsGap, IsPlace, StandsAt}
use Rattle.value_core.specs.Sorted.{has, with_key}

pub is_Less : (r : Ordering) → is_lt r ≡ true → r ≡ Less
is_Less Less e = refl
is_Less Equal e = absurd cc
is_Less Greater e = absurd cc

turned : {K : Type 0} {R : K → K → Ordering} → IsTotalOrder R → (x y : K) (r : Ordering) → R x y ≡ r → R y x ≡ ordering_reverse r
turned o x y r e = o.antisymm y x ∙ ap ordering_reverse e

-- ---- the place, by a binary search

-- a binary search among items in the order of their keys finds the place or the gap
pub stands : {A K : Type 0} {R : K → K → Ordering} → IsTotalOrder R → IsAntisymmetric R → (key : A → K) (xs : List A) (q : K) (r : Result ℕ ℕ) →
    IsSortedBy (λ a b. is_lt (R (key a) (key b))) xs → IsSearchInRange r (length xs) → IsBinarySearchResult (λ a. R (key a) q) xs r → StandsAt key R xs q r
stands o same key xs q (Ok i) up within found = record { within = within; here = λ d. same (key (get_or xs i d)) q (found d) }
stands o same key xs q (Err i) up within found =
    let parts = found (searchable_from_sorted o key xs q up) in
    record { within = within; below = λ k d lt. parts.0 k d (omega arith) lt; above = λ k d le lt. parts.1 k d le lt }

module _ {A K : Type 0} (key : A → K) (R : K → K → Ordering) where
  gap_behind : (x : A) (xs : List A) (q : K) (i : ℕ) → IsGap key R (x ∷ xs) q (suc i) → IsGap key R xs q i
  gap_behind x xs q i g =
      let within : suc i ≤ length (x ∷ xs) = g.within in
      record { within = omega arith; below = λ k d lt. g.below (suc k) d (omega arith); above = λ k d le lt. g.above (suc k) d (omega arith) (omega arith) }

  gap_above : (x : A) (xs : List A) (q : K) → IsGap key R (x ∷ xs) q 0 → IsGap key R xs q 0
  gap_above x xs q g = record { within = omega arith; below = λ k d lt. absurd (omega arith); above = λ k d le lt. g.above (suc k) d (omega arith) (omega arith) }

module _ {K X : Type 0} {R : K → K → Ordering} (o : IsTotalOrder R) where
  abbrev key_of : K × X → K
  key_of e = e.0

  below_at : (x : K) (es : List (K × X)) (j : ℕ) (d : K × X) → IsTrue (below_all R x es) → j < length es → R x (get_or es j d).0 ≡ Less
  below_at x [] j d h lt = absurd (omega arith)
  below_at x (e ∷ es) zero d h lt = is_Less _ (and_parts _ _ h).0
  below_at x (e ∷ es) (suc j) d h lt = below_at x es j d (and_parts _ _ h).1 (omega arith)

  -- an earlier key is below a later one
  pub rises : (es : List (K × X)) (i j : ℕ) (d : K × X) → IsTrue (is_sorted R es) → i < j → j < length es → R (get_or es i d).0 (get_or es j d).0 ≡ Less
  rises [] i j d h lt small = absurd (omega arith)
  rises (e ∷ es) i zero d h lt small = absurd (omega arith)
  rises (e ∷ es) zero (suc j) d h lt small = below_at e.0 es j d (and_parts _ _ h).0 (omega arith)
  rises (e ∷ es) (suc i) (suc j) d h lt small = rises es i j d (and_parts _ _ h).1 (omega arith) (omega arith)

  pub sorted_by : (es : List (K × X)) → IsTrue (is_sorted R es) → IsSortedBy (λ a b. is_lt (R a.0 b.0)) es
  sorted_by es h k d low high = ap is_lt (turned o _ _ Less (rises es k (k + 1) d h (omega arith) high))

  find-at : (es : List (K × X)) (i : ℕ) (d : K × X) → IsTrue (is_sorted R es) → i < length es → find R (get_or es i d).0 es ≡ Some (get_or es i d).1
  find-at [] i d h lt = absurd (omega arith)
  find-at (e ∷ es) zero d h lt = ap (λ r. cond (is_eq r) (Some e.1) (find R e.0 es)) (tied_itself o e.0)
  find-at (e ∷ es) (suc i) d h lt =
      let above : R (get_or es i d).0 e.0 ≡ Greater = turned o _ _ Less (below_at e.0 es i d (and_parts _ _ h).0 (omega arith)) in
      ap (λ r. cond (is_eq r) (Some e.1) (find R (get_or es i d).0 es)) above ∙ find-at es i d (and_parts _ _ h).1 (omega arith)

  -- the value at the place of its key
  pub find-place : (es : List (K × X)) (q : K) (i : ℕ) (d : K × X) → IsTrue (is_sorted R es) → IsPlace key_of es q i → find R q es ≡ Some (get_or es i d).1
  find-place es q i d h p = subst (λ k. find R k es ≡ Some (get_or es i d).1) (p.here d) (find-at es i d h p.within)

  put-at : (es : List (K × X)) (i : ℕ) (d : K × X) (v : X) → IsTrue (is_sorted R es) → i < length es → put R (get_or es i d).0 v es ≡ set es i ((get_or es i d).0, v)
  put-at [] i d v h lt = absurd (omega arith)
  put-at (e ∷ es) zero d v h lt = ap (λ r. by_order r ((e.0, v) ∷ e ∷ es) ((e.0, v) ∷ es) (e ∷ put R e.0 v es)) (tied_itself o e.0)
  put-at (e ∷ es) (suc i) d v h lt =
      let k = (get_or es i d).0 in
      let above : R k e.0 ≡ Greater = turned o _ _ Less (below_at e.0 es i d (and_parts _ _ h).0 (omega arith)) in
      ap (λ r. by_order r ((k, v) ∷ e ∷ es) ((e.0, v) ∷ es) (e ∷ put R k v es)) above ∙ ap (λ l. e ∷ l) (put-at es i d v (and_parts _ _ h).1 (omega arith))

  -- a new value at the place of its key
  pub put-place : (es : List (K × X)) (q : K) (i : ℕ) (v : X) → IsTrue (is_sorted R es) → IsPlace key_of es q i → put R q v es ≡ set es i (q, v)
  put-place es q i v h p = subst (λ k. put R k v es ≡ set es i (k, v)) (p.here (q, v)) (put-at es i (q, v) v h p.within)

  -- no key stands in a gap
  pub find-gap : (es : List (K × X)) (q : K) (i : ℕ) → IsGap key_of R es q i → find R q es ≡ None
  find-gap [] q i g = refl
  find-gap (e ∷ es) q zero g =
      let first : R q e.0 ≡ Less = turned o _ _ Greater (g.above 0 e (omega arith) (omega arith)) in
      ap (λ r. cond (is_eq r) (Some e.1) (find R q es)) first ∙ find-gap es q 0 (gap_above key_of R e es q g)
  find-gap (e ∷ es) q (suc i) g =
      let first : R q e.0 ≡ Greater = turned o _ _ Less (g.below 0 e (omega arith)) in
      ap (λ r. cond (is_eq r) (Some e.1) (find R q es)) first ∙ find-gap es q i (gap_behind key_of R e es q i g)

  -- a new key goes into its gap
  pub put-gap : (es : List (K × X)) (q : K) (i : ℕ) (v : X) → IsGap key_of R es q i → put R q v es ≡ insert es i (q, v)
  put-gap [] q zero v g = refl
  put-gap [] q (suc i) v g = let within : suc i ≤ 0 = g.within in absurd (omega arith)
  put-gap (e ∷ es) q zero v g =
      let first : R q e.0 ≡ Less = turned o _ _ Greater (g.above 0 e (omega arith) (omega arith)) in
      ap (λ r. by_order r ((q, v) ∷ e ∷ es) ((e.0, v) ∷ es) (e ∷ put R q v es)) first
  put-gap (e ∷ es) q (suc i) v g =
      let first : R q e.0 ≡ Greater = turned o _ _ Less (g.below 0 e (omega arith)) in
      ap (λ r. by_order r ((q, v) ∷ e ∷ es) ((e.0, v) ∷ es) (e ∷ put R q v es)) first ∙ ap (λ l. e ∷ l) (put-gap es q i v (gap_behind key_of R e es q i g))

-- ---- keys alone

or_true : (a b : Bool) → b ≡ true → (a || b) ≡ true
or_true true b h = refl
or_true false b h = h

module _ {K : Type 0} {R : K → K → Ordering} (o : IsTotalOrder R) where
  abbrev itself : K → K
  itself k = k

  -- no key stands in its gap
  pub has-gap : (ks : List K) (q : K) (i : ℕ) → IsGap itself R ks q i → has R q ks ≡ false
  has-gap [] q i g = refl
  has-gap (k ∷ ks) q zero g =
      let first : R q k ≡ Less = turned o _ _ Greater (g.above 0 k (omega arith) (omega arith)) in
      ap (λ r. is_eq r || has R q ks) first ∙ has-gap ks q 0 (gap_above itself R k ks q g)
  has-gap (k ∷ ks) q (suc i) g =
      let first : R q k ≡ Greater = turned o _ _ Less (g.below 0 k (omega arith)) in
      ap (λ r. is_eq r || has R q ks) first ∙ has-gap ks q i (gap_behind itself R k ks q i g)

  -- a key that has a place is there
  pub has-place : (ks : List K) (q : K) (i : ℕ) → IsPlace itself ks q i → has R q ks ≡ true
  has-place [] q i p = let within : i < 0 = p.within in absurd (omega arith)
  has-place (k ∷ ks) q zero p = ap (λ r. is_eq r || has R q ks) (ap (λ x. R q x) (p.here k) ∙ tied_itself o q)
  has-place (k ∷ ks) q (suc i) p =
      let within : suc i < length (k ∷ ks) = p.within in
      or_true (eq_by_cmp R q k) (has R q ks) (has-place ks q i (record { within = omega arith; here = λ d. p.here d }))

  -- a new key goes into its gap
  pub with-gap : (ks : List K) (q : K) (i : ℕ) → IsGap itself R ks q i → with_key R q ks ≡ insert ks i q
  with-gap [] q zero g = refl
  with-gap [] q (suc i) g = let within : suc i ≤ 0 = g.within in absurd (omega arith)
  with-gap (k ∷ ks) q zero g =
      let first : R q k ≡ Less = turned o _ _ Greater (g.above 0 k (omega arith) (omega arith)) in
      ap (λ r. by_order r (q ∷ k ∷ ks) (k ∷ ks) (k ∷ with_key R q ks)) first
  with-gap (k ∷ ks) q (suc i) g =
      let first : R q k ≡ Greater = turned o _ _ Less (g.below 0 k (omega arith)) in
      ap (λ r. by_order r (q ∷ k ∷ ks) (k ∷ ks) (k ∷ with_key R q ks)) first ∙ ap (λ l. k ∷ l) (with-gap ks q i (gap_behind itself R k ks q i g))

-- ---- what is taken out

filter-all : {A : Type 0} (test : A → Bool) (xs : List A) → ((k : ℕ) (d : A) → k < length xs → test (get_or xs k d) ≡ true) → filter test xs ≡ xs
filter-all test [] stay = refl
filter-all test (x ∷ xs) stay =
    ap (λ b. cond b (x ∷ filter test xs) (filter test xs)) (stay 0 x (omega arith)) ∙ ap (λ l. x ∷ l) (filter-all test xs (λ k d lt. stay (suc k) d (omega arith)))

-- a test that one item alone fails keeps all but that
pub filter-one : {A : Type 0} (test : A → Bool) (xs : List A) (i : ℕ) → i < length xs → ((d : A) → test (get_or xs i d) ≡ false) →
    ((k : ℕ) (d : A) → k < length xs → (k ≡ i → ⊥) → test (get_or xs k d) ≡ true) → filter test xs ≡ remove xs i
filter-one test [] i lt out stay = absurd (omega arith)
filter-one test (x ∷ xs) zero lt out stay =
    ap (λ b. cond b (x ∷ filter test xs) (filter test xs)) (out x) ∙ filter-all test xs (λ k d small. stay (suc k) d (omega arith) (λ e. omega arith))
filter-one test (x ∷ xs) (suc i) lt out stay =
    ap (λ b. cond b (x ∷ filter test xs) (filter test xs)) (stay 0 x (omega arith) (λ e. omega arith))
    ∙ ap (λ l. x ∷ l) (filter-one test xs i (omega arith) out (λ k d small other. stay (suc k) d (omega arith) (λ e. other (omega arith))))

module _ {A K : Type 0} {R : K → K → Ordering} (o : IsTotalOrder R) (key : A → K) where
  -- the item of a key goes from its place
  pub removed-place : (xs : List A) (q : K) (i : ℕ) → ((j k : ℕ) (d : A) → j < k → k < length xs → R (key (get_or xs j d)) (key (get_or xs k d)) ≡ Less) → IsPlace key xs q i →
      filter (λ x. not (eq_by_cmp R q (key x))) xs ≡ remove xs i
  removed-place xs q i up p =
      filter-one (λ x. not (eq_by_cmp R q (key x))) xs i p.within
      (λ d. ap (λ k. not (eq_by_cmp R q k)) (p.here d) ∙ ap (λ r. not (is_eq r)) (tied_itself o q))
      (λ k d lt other. elim (cases_lt k i) [
        | inl less ↦
            let low : R (key (get_or xs k d)) q ≡ Less = ap (R (key (get_or xs k d))) (sym (p.here d)) ∙ up k i d less p.within in
            ap (λ r. not (is_eq r)) (turned o (key (get_or xs k d)) q Less low)
        | inr le ↦
            let high : R q (key (get_or xs k d)) ≡ Less = ap (λ x. R x (key (get_or xs k d))) (sym (p.here d)) ∙ up i k d (omega arith) lt in
            ap (λ r. not (is_eq r)) high
      ])
