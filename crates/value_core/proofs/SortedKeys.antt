-- Ascending keys as ascending entries without values, and so what holds of sets.
use Rattle.std.proofs.Common.{◌≡◌, ℕ, suc, ◌+◌, Bool, true, false, not, cond, T, List, [], ◌∷◌, map, length, Option, Some, None, refl, sym, ap, ◌∙◌, arith}
use Rattle.std.specs.Prelude.{is_some, sum_by}
use Rattle.std.specs.declared.cmp.Ordering.{Ordering}
use Rattle.std.specs.declared.cmp.Ordering.TheVariants.{Less, Equal, Greater}
use Rattle.std.specs.Ordering.{eq_by_cmp}
use Rattle.std.specs.Cmp.{IsTotalOrder}
use Rattle.std.specs.List.{list_all, list_any}
use Rattle.std.specs.FinMap.{IsAntisymmetric}
use Rattle.std.specs.FinMap.Entries.{by_order, put, find, is_sorted, is_some-find, is_sorted-put, length-put, length_without, same_entries}
use Rattle.std.proofs.lemmas.List.Sums.{sum_by-cons}
use Rattle.value_core.specs.Sorted.{has, with_key, without, without_key}
use Rattle.value_core.proofs.Bools.{both_true, first_true, second_true}
use Rattle.value_core.proofs.SortedEntries.{find-put_itself, find-put_other, find-without_itself, find-without_other, weight, weight-put_new, weight-put_old, weight-without, without_absent}

-- the keys as entries
abbrev pub units : {K : Type 0} → List K → List (K × Unit {0})
units = map (λ k. (k, tt))

pub keys-units : {K : Type 0} (ks : List K) → map (λ e. e.0) (units ks) ≡ ks
keys-units [] = refl
keys-units (k ∷ ks) = ap (λ l. k ∷ l) (keys-units ks)

pub length-units : {K : Type 0} (ks : List K) → length (units ks) ≡ length ks
length-units [] = refl
length-units (k ∷ ks) = ap (λ n. suc n) (length-units ks)

same_units : {K : Type 0} (ks ls : List K) → units ks ≡ units ls → ks ≡ ls
same_units ks ls is = sym (keys-units ks) ∙ ap (map (λ e. e.0)) is ∙ keys-units ls

same_answer : (a b : Option (Unit {0})) → is_some a ≡ is_some b → a ≡ b
same_answer None None e = refl
same_answer None (Some u) e = absurd cc
same_answer (Some u) None e = absurd cc
same_answer (Some u) (Some w) e = refl

-- ---- an insertion and a removal, among entries

module _ {K : Type 0} (R : K → K → Ordering) where
  pub units-with : (k : K) (ks : List K) → units (with_key R k ks) ≡ put R k tt (units ks)
  units-with k [] = refl
  units-with k (x ∷ xs) =
      elim (R k x) as (λ r. units (by_order r (k ∷ x ∷ xs) (x ∷ xs) (x ∷ with_key R k xs)) ≡ by_order r ((k, tt) ∷ (x, tt) ∷ units xs) ((x, tt) ∷ units xs) ((x, tt) ∷ put R k tt (units xs))) [
        | Less ↦ refl
        | Equal ↦ refl
        | Greater ↦ ap (λ l. (x, tt) ∷ l) (units-with k xs)
      ]

  pub units-without : (k : K) (ks : List K) → units (without_key R k ks) ≡ without R k (units ks)
  units-without k [] = refl
  units-without k (x ∷ xs) =
      elim (eq_by_cmp R k x) as (λ b. units (cond (not b) (x ∷ without_key R k xs) (without_key R k xs)) ≡ cond (not b) ((x, tt) ∷ without R k (units xs)) (without R k (units xs))) [
        | true ↦ units-without k xs
        | false ↦ ap (λ l. (x, tt) ∷ l) (units-without k xs)
      ]

  pub has-units : (k : K) (ks : List K) → has R k ks ≡ is_some (find R k (units ks))
  has-units k ks = ap (list_any (eq_by_cmp R k)) (sym (keys-units ks)) ∙ sym (is_some-find R k (units ks))

  has-with : (q k : K) (ks : List K) → has R q (with_key R k ks) ≡ is_some (find R q (put R k tt (units ks)))
  has-with q k ks = has-units q (with_key R k ks) ∙ ap (λ es. is_some (find R q es)) (units-with k ks)

  has-without : (q k : K) (ks : List K) → has R q (without_key R k ks) ≡ is_some (find R q (without R k (units ks)))
  has-without q k ks = has-units q (without_key R k ks) ∙ ap (λ es. is_some (find R q es)) (units-without k ks)

  -- a key that isn't there is not found, and one that is there is
  not_found : (k : K) (ks : List K) → has R k ks ≡ false → find R k (units ks) ≡ None
  not_found k ks h =
      elim (find R k (units ks)) as (λ r. is_some r ≡ false → r ≡ None) [ None ↦ λ e. refl | Some u ↦ λ e. absurd cc ] (sym (has-units k ks) ∙ h)

  is_found : (k : K) (ks : List K) → has R k ks ≡ true → find R k (units ks) ≡ Some tt
  is_found k ks h =
      elim (find R k (units ks)) as (λ r. is_some r ≡ true → r ≡ Some tt) [ None ↦ λ e. absurd cc | Some u ↦ λ e. refl ] (sym (has-units k ks) ∙ h)

  pub without_key_absent : (k : K) (ks : List K) → has R k ks ≡ false → without_key R k ks ≡ ks
  without_key_absent k ks h = same_units (without_key R k ks) ks (units-without k ks ∙ without_absent R k (units ks) (not_found k ks h))

  -- what holds of each key
  pub all-with : (p : K → Bool) (k : K) (ks : List K) → p k ≡ true → list_all p ks ≡ true → list_all p (with_key R k ks) ≡ true
  all-with p k [] key h = both_true (p k) true key refl
  all-with p k (x ∷ xs) key h =
      elim (R k x) as (λ r. list_all p (by_order r (k ∷ x ∷ xs) (x ∷ xs) (x ∷ with_key R k xs)) ≡ true) [
        | Less ↦ both_true (p k) (list_all p (x ∷ xs)) key h
        | Equal ↦ h
        | Greater ↦ both_true (p x) (list_all p (with_key R k xs)) (first_true (p x) (list_all p xs) h) (all-with p k xs key (second_true (p x) (list_all p xs) h))
      ]

-- ---- what is found

module _ {K : Type 0} {R : K → K → Ordering} (o : IsTotalOrder R) where
  pub has-with_itself : (k : K) (ks : List K) → has R k (with_key R k ks) ≡ true
  has-with_itself k ks = has-with R k k ks ∙ ap is_some (find-put_itself o k tt (units ks))

  pub has-with_other : IsAntisymmetric R → (k q : K) (ks : List K) → (q ≡ k → ⊥) → has R q (with_key R k ks) ≡ has R q ks
  has-with_other same k q ks other = has-with R q k ks ∙ ap is_some (find-put_other o same k q tt (units ks) other) ∙ sym (has-units R q ks)

  pub has-without_itself : (k : K) (ks : List K) → has R k (without_key R k ks) ≡ false
  has-without_itself k ks = has-without R k k ks ∙ ap is_some (find-without_itself o k (units ks))

  pub has-without_other : IsAntisymmetric R → (k q : K) (ks : List K) → (q ≡ k → ⊥) → has R q (without_key R k ks) ≡ has R q ks
  has-without_other same k q ks other = has-without R q k ks ∙ ap is_some (find-without_other o same k q (units ks) other) ∙ sym (has-units R q ks)

  pub same_keys : IsAntisymmetric R → (ks ls : List K) → T (is_sorted R (units ks)) → T (is_sorted R (units ls)) → ((q : K) → has R q ks ≡ has R q ls) → ks ≡ ls
  same_keys same ks ls up ups alike =
      same_units ks ls (same_entries R o same (units ks) (units ls) up ups (λ q.
      same_answer (find R q (units ks)) (find R q (units ls)) (sym (has-units R q ks) ∙ alike q ∙ has-units R q ls)))

  -- ---- order, lengths and weights

  pub sorted-with : (k : K) (ks : List K) → T (is_sorted R (units ks)) → T (is_sorted R (put R k tt (units ks)))
  sorted-with k ks up = is_sorted-put R o k tt (units ks) up

  pub length-with : (k : K) (ks : List K) → T (is_sorted R (units ks)) → length (with_key R k ks) ≡ cond (has R k ks) (length ks) (length ks + 1)
  length-with k ks up =
      sym (length-units (with_key R k ks)) ∙ ap length (units-with R k ks) ∙ length-put R o k tt (units ks) up
      ∙ (λ i. cond (sym (has-units R k ks) i) (length-units ks i) (length-units ks i + 1))

  pub length-without_key : (k : K) (ks : List K) → T (is_sorted R (units ks)) → cond (has R k ks) 1 0 + length (without_key R k ks) ≡ length ks
  length-without_key k ks up =
      (λ i. cond (has-units R k ks i) 1 0 + (sym (length-units (without_key R k ks)) ∙ ap length (units-without R k ks)) i)
      ∙ length_without R o k (units ks) up ∙ length-units ks

  module _ (f : K → ℕ) where
    -- a key weighs what it does, and as an entry no more
    abbrev nothing : Unit {0} → ℕ
    nothing u = 0

    sum-units : (ks : List K) → weight f nothing (units ks) ≡ sum_by f ks
    sum-units [] = refl
    sum-units (k ∷ ks) =
        let rest : weight f nothing (units ks) ≡ sum_by f ks = sum-units ks in
        let one : sum_by f (k ∷ ks) ≡ f k + sum_by f ks = sum_by-cons f k ks in
        omega (arith, rest, one)

    pub sum-with : (k : K) (ks : List K) → T (is_sorted R (units ks)) → sum_by f (with_key R k ks) ≡ sum_by f ks + cond (has R k ks) 0 (f k)
    sum-with k ks up =
        let before : weight f nothing (units ks) ≡ sum_by f ks = sum-units ks in
        let after : weight f nothing (put R k tt (units ks)) ≡ sum_by f (with_key R k ks) = ap (weight f nothing) (sym (units-with R k ks)) ∙ sum-units (with_key R k ks) in
        elim (has R k ks) as (λ b. has R k ks ≡ b → sum_by f (with_key R k ks) ≡ sum_by f ks + cond b 0 (f k)) [
          | true ↦ λ h. let stays : weight f nothing (put R k tt (units ks)) + 0 ≡ weight f nothing (units ks) + 0 = weight-put_old f nothing o k tt tt (units ks) up (is_found R k ks h) in omega (arith, before, after, stays)
          | false ↦ λ h. let grows : weight f nothing (put R k tt (units ks)) ≡ weight f nothing (units ks) + (f k + 0) = weight-put_new f nothing R k tt (units ks) (not_found R k ks h) in omega (arith, before, after, grows)
        ] refl

    pub sum-without_key : IsAntisymmetric R → (k : K) (ks : List K) → T (is_sorted R (units ks)) → sum_by f (without_key R k ks) + cond (has R k ks) (f k) 0 ≡ sum_by f ks
    sum-without_key same k ks up =
        let before : weight f nothing (units ks) ≡ sum_by f ks = sum-units ks in
        let after : weight f nothing (without R k (units ks)) ≡ sum_by f (without_key R k ks) = ap (weight f nothing) (sym (units-without R k ks)) ∙ sum-units (without_key R k ks) in
        elim (has R k ks) as (λ b. has R k ks ≡ b → sum_by f (without_key R k ks) + cond b (f k) 0 ≡ sum_by f ks) [
          | true ↦ λ h. let falls : weight f nothing (without R k (units ks)) + (f k + 0) ≡ weight f nothing (units ks) = weight-without f nothing o same k tt (units ks) up (is_found R k ks h) in omega (arith, before, after, falls)
          | false ↦ λ h. let stays : sum_by f (without_key R k ks) ≡ sum_by f ks = ap (sum_by f) (without_key_absent R k ks h) in omega (arith, stays)
        ] refl
