-- Ascending entries after a key is put or taken out: what is found, what each one keeps, and what all weigh.
use Rattle.std.proofs.Common.{◌≡◌, ℕ, ◌+◌, Bool, true, false, not, cond, ◌&&◌, T, List, [], ◌∷◌, Some, None, refl, sym, ap, ◌∙◌, arith}
use Rattle.std.specs.Prelude.{sum_by}
use Rattle.std.specs.declared.cmp.Ordering.{Ordering}
use Rattle.std.specs.declared.cmp.Ordering.TheVariants.{Less, Equal, Greater}
use Rattle.std.specs.Ordering.{is_lt, is_eq, eq_by_cmp}
use Rattle.std.specs.Cmp.{IsTotalOrder, alike_right, eq_by_cmp_equiv, tied_itself}
use Rattle.std.specs.List.{list_all, filter}
use Rattle.std.specs.FinMap.{IsAntisymmetric}
use Rattle.std.specs.FinMap.Entries.{by_order, put, find, below_all, is_sorted, find-put, find-where_key}
use Rattle.std.proofs.lemmas.List.Recursion.{is_sum_by}
use Rattle.value_core.specs.Sorted.{without}
use Rattle.value_core.proofs.Bools.{both_true, first_true, left, right, second_true}

-- ---- tests

is_less : (r : Ordering) → T (is_lt r) → r ≡ Less
is_less Less h = refl
is_less Equal h = absurd h
is_less Greater h = absurd h

is_equal : (r : Ordering) → is_eq r ≡ true → r ≡ Equal
is_equal Less e = absurd cc
is_equal Equal e = refl
is_equal Greater e = absurd cc

turned : {A : Type 0} (b : Bool) (x y : A) → cond (not b) x y ≡ cond b y x
turned true x y = refl
turned false x y = refl

-- two different keys don't tie
pub apart : {K : Type 0} {R : K → K → Ordering} → IsAntisymmetric R → (q k : K) → (q ≡ k → ⊥) → eq_by_cmp R q k ≡ false
apart {R = R} same q k other =
    elim (R q k) as (λ r. R q k ≡ r → is_eq r ≡ false) [ Less ↦ λ p. refl | Equal ↦ λ p. absurd (other (same q k p)) | Greater ↦ λ p. refl ] refl

-- ---- what is found

module _ {K X : Type 0} {R : K → K → Ordering} (o : IsTotalOrder R) where
  pub find-without : (k q : K) (es : List (K × X)) → find R q (without R k es) ≡ cond (eq_by_cmp R q k) None (find R q es)
  find-without k q es =
      find-where_key R (λ x. not (eq_by_cmp R k x)) q (λ x t. ap (λ r. not (is_eq r)) (sym (alike_right o q x k t))) es
      ∙ turned (eq_by_cmp R k q) (find R q es) None ∙ ap (λ b. cond b None (find R q es)) ((eq_by_cmp_equiv o).symm k q)

  pub find-put_itself : (k : K) (v : X) (es : List (K × X)) → find R k (put R k v es) ≡ Some v
  find-put_itself k v es = find-put R o k k v es ∙ ap (λ r. cond (is_eq r) (Some v) (find R k es)) (tied_itself o k)

  pub find-put_other : IsAntisymmetric R → (k q : K) (v : X) (es : List (K × X)) → (q ≡ k → ⊥) → find R q (put R k v es) ≡ find R q es
  find-put_other same k q v es other = find-put R o q k v es ∙ ap (λ b. cond b (Some v) (find R q es)) (apart same q k other)

  pub find-without_itself : (k : K) (es : List (K × X)) → find R k (without R k es) ≡ None
  find-without_itself k es = find-without k k es ∙ ap (λ r. cond (is_eq r) None (find R k es)) (tied_itself o k)

  pub find-without_other : IsAntisymmetric R → (k q : K) (es : List (K × X)) → (q ≡ k → ⊥) → find R q (without R k es) ≡ find R q es
  find-without_other same k q es other = find-without k q es ∙ ap (λ b. cond b None (find R q es)) (apart same q k other)

  below_less : (k x : K) (es : List (K × X)) → R k x ≡ Less → T (below_all R x es) → find R k es ≡ None
  below_less k x [] p h = refl
  below_less k x (e ∷ es) p h = ap (λ r. cond (is_eq r) (Some e.1) (find R k es)) (o.trans k x e.0 p (is_less _ (left _ _ h))) ∙ below_less k x es p (right _ _ h)

  below_tied : (k x : K) (es : List (K × X)) → R k x ≡ Equal → T (below_all R x es) → find R k es ≡ None
  below_tied k x [] p h = refl
  below_tied k x (e ∷ es) p h = ap (λ r. cond (is_eq r) (Some e.1) (find R k es)) (o.congr k x e.0 p ∙ is_less _ (left _ _ h)) ∙ below_tied k x es p (right _ _ h)

pub without_absent : {K X : Type 0} (R : K → K → Ordering) (k : K) (es : List (K × X)) → find R k es ≡ None → without R k es ≡ es
without_absent R k [] none = refl
without_absent R k (e ∷ es) none =
    elim (eq_by_cmp R k e.0) as (λ b. cond b (Some e.1) (find R k es) ≡ None → cond (not b) (e ∷ without R k es) (without R k es) ≡ e ∷ es) [
      | true ↦ λ n. absurd cc
      | false ↦ λ n. ap (λ l. e ∷ l) (without_absent R k es n)
    ] none

-- ---- what each entry keeps

pub all-filter : {A : Type 0} (p test : A → Bool) (xs : List A) → list_all p xs ≡ true → list_all p (filter test xs) ≡ true
all-filter p test [] h = refl
all-filter p test (x ∷ xs) h =
    let rest = all-filter p test xs (second_true (p x) (list_all p xs) h) in
    elim (test x) as (λ b. list_all p (cond b (x ∷ filter test xs) (filter test xs)) ≡ true) [ true ↦ both_true (p x) (list_all p (filter test xs)) (first_true (p x) (list_all p xs) h) rest | false ↦ rest ]

module _ {K X : Type 0} (R : K → K → Ordering) (p : K → Bool) (q : X → Bool) where
  -- a test of keys and of values
  abbrev pub both : K × X → Bool
  both e = p e.0 && q e.1

  pub all-put : (k : K) (v : X) (es : List (K × X)) → p k ≡ true → q v ≡ true → list_all both es ≡ true → list_all both (put R k v es) ≡ true
  all-put k v [] key value h = both_true (p k && q v) true (both_true (p k) (q v) key value) refl
  all-put k v (e ∷ es) key value h =
      let here = first_true (both e) (list_all both es) h in
      let later = second_true (both e) (list_all both es) h in
      elim (R k e.0) as (λ r. list_all both (by_order r ((k, v) ∷ e ∷ es) ((e.0, v) ∷ es) (e ∷ put R k v es)) ≡ true) [
        | Less ↦ both_true (p k && q v) (list_all both (e ∷ es)) (both_true (p k) (q v) key value) h
        | Equal ↦ both_true (p e.0 && q v) (list_all both es) (both_true (p e.0) (q v) (first_true (p e.0) (q e.1) here) value) later
        | Greater ↦ both_true (both e) (list_all both (put R k v es)) here (all-put k v es key value later)
      ]

-- ---- what all weigh

module _ {K X : Type 0} (f : K → ℕ) (g : X → ℕ) where
  -- the weights of keys and values together
  abbrev pub weight : List (K × X) → ℕ
  weight [] = 0
  weight (e ∷ es) = (f e.0 + g e.1) + weight es

  pub weight-is : (es : List (K × X)) → weight es ≡ sum_by (λ e. f e.0 + g e.1) es
  weight-is es = is_sum_by weight (λ e. f e.0 + g e.1) refl (λ _ _. refl) es

  pub weight-put_new : (R : K → K → Ordering) (k : K) (v : X) (es : List (K × X)) → find R k es ≡ None → weight (put R k v es) ≡ weight es + (f k + g v)
  weight-put_new R k v [] none = omega arith
  weight-put_new R k v (e ∷ es) none =
      elim (R k e.0) as (λ r. cond (is_eq r) (Some e.1) (find R k es) ≡ None → weight (by_order r ((k, v) ∷ e ∷ es) ((e.0, v) ∷ es) (e ∷ put R k v es)) ≡ ((f e.0 + g e.1) + weight es) + (f k + g v)) [
        | Less ↦ λ n. omega arith
        | Equal ↦ λ n. absurd cc
        | Greater ↦ λ n. let rest : weight (put R k v es) ≡ weight es + (f k + g v) = weight-put_new R k v es n in omega (arith, rest)
      ] none

  module _ {R : K → K → Ordering} (o : IsTotalOrder R) where
    pub weight-put_old : (k : K) (v w : X) (es : List (K × X)) → T (is_sorted R es) → find R k es ≡ Some w → weight (put R k v es) + g w ≡ weight es + g v
    weight-put_old k v w [] up found = absurd cc
    weight-put_old k v w (e ∷ es) up found =
        elim (R k e.0) as (λ r. R k e.0 ≡ r → cond (is_eq r) (Some e.1) (find R k es) ≡ Some w → weight (by_order r ((k, v) ∷ e ∷ es) ((e.0, v) ∷ es) (e ∷ put R k v es)) + g w ≡ ((f e.0 + g e.1) + weight es) + g v) [
          | Less ↦ λ p is. let none : find R k es ≡ None = below_less o k e.0 es p (left _ _ up) in absurd cc
          | Equal ↦ λ p is. let same : g e.1 ≡ g w = cc in omega (arith, same)
          | Greater ↦ λ p is. let rest : weight (put R k v es) + g w ≡ weight es + g v = weight-put_old k v w es (right (below_all R e.0 es) (is_sorted R es) up) is in omega (arith, rest)
        ] refl found

    pub weight-without : IsAntisymmetric R → (k : K) (w : X) (es : List (K × X)) → T (is_sorted R es) → find R k es ≡ Some w → weight (without R k es) + (f k + g w) ≡ weight es
    weight-without same k w [] up found = absurd cc
    weight-without same k w (e ∷ es) up found =
        let others = without R k es in
        elim (eq_by_cmp R k e.0) as (λ b. eq_by_cmp R k e.0 ≡ b → cond b (Some e.1) (find R k es) ≡ Some w → weight (cond (not b) (e ∷ others) others) + (f k + g w) ≡ (f e.0 + g e.1) + weight es) [
          | true ↦ λ p is.
              let tied : R k e.0 ≡ Equal = is_equal (R k e.0) p in
              let key : f k ≡ f e.0 = ap f (same k e.0 tied) in
              let value : g e.1 ≡ g w = cc in
              let stay : weight others ≡ weight es = ap weight (without_absent R k es (below_tied o k e.0 es tied (left (below_all R e.0 es) (is_sorted R es) up))) in
              omega (arith, key, value, stay)
          | false ↦ λ p is. let rest : weight others + (f k + g w) ≡ weight es = weight-without same k w es (right (below_all R e.0 es) (is_sorted R es) up) is in omega (arith, rest)
        ] refl found
