-- Lists of entries in the order of their keys, when one is put or taken out: their total, and what holds of each.
use Rattle.std.proofs.Common.{◌≡◌, ℕ, ◌+◌, true, false, not, cond, T, List, [], ◌∷◌, map, refl, sym, ap, subst, ◌∙◌, arith}
use Rattle.std.specs.Prelude.{Option, Some, None, unwrap_or, sum, IfSome}
use Rattle.std.specs.declared.cmp.Ordering.{Ordering}
use Rattle.std.specs.declared.cmp.Ordering.TheVariants.{Less, Equal, Greater}
use Rattle.std.specs.Ordering.{is_lt, is_eq, eq_by_cmp}
use Rattle.std.specs.Cmp.{IsTotalOrder}
use Rattle.std.specs.List.{AllByRecursion}
use Rattle.std.specs.FinMap.Entries.{by_order, put, where_key, find, below_all, is_sorted}
use Rattle.std.proofs.lemmas.List.Recursion.{is_sum_by}
use Rattle.std.proofs.lemmas.List.Sums.{sum-map}
use Rattle.value_core.proofs.Bools.{left, right}

-- the values together
abbrev pub total : {K : Type 0} → List (K × ℕ) → ℕ
total [] = 0
total (e ∷ es) = e.1 + total es

pub total_is : {K : Type 0} (es : List (K × ℕ)) → sum (map (λ e. e.1) es) ≡ total es
total_is es = sum-map (λ e. e.1) es ∙ sym (is_sum_by total (λ e. e.1) refl (λ _ _. refl) es)

is_less : (r : Ordering) → T (is_lt r) → r ≡ Less
is_less Less h = refl
is_less Equal h = absurd h
is_less Greater h = absurd h

pub is_equal : (r : Ordering) → is_eq r ≡ true → r ≡ Equal
is_equal Less e = cc
is_equal Equal e = refl
is_equal Greater e = cc

module _ {K X : Type 0} {R : K → K → Ordering} (o : IsTotalOrder R) where
  below_less : (k x : K) (es : List (K × X)) → R k x ≡ Less → T (below_all R x es) → find R k es ≡ None
  below_less k x [] p h = refl
  below_less k x (e ∷ es) p h = ap (λ r. cond (is_eq r) (Some e.1) (find R k es)) (o.trans k x e.0 p (is_less _ (left _ _ h))) ∙ below_less k x es p (right _ _ h)

  pub below_tied : (k x : K) (es : List (K × X)) → R k x ≡ Equal → T (below_all R x es) → find R k es ≡ None
  below_tied k x [] p h = refl
  below_tied k x (e ∷ es) p h = ap (λ r. cond (is_eq r) (Some e.1) (find R k es)) (o.congr k x e.0 p ∙ is_less _ (left _ _ h)) ∙ below_tied k x es p (right _ _ h)

-- what holds of each entry's value holds of the one that is found
pub all-find : {K X : Type 0} (R : K → K → Ordering) (Q : K × X → Type 0) (S : X → Type 0) → ((e : K × X) → Q e → S e.1) → (k : K) (es : List (K × X)) → AllByRecursion Q es → IfSome (find R k es) S
all-find R Q S value k [] all = tt
all-find R Q S value k (e ∷ es) all =
    elim (eq_by_cmp R k e.0) as (λ b. IfSome (cond b (Some e.1) (find R k es)) S) [ true ↦ value e all.0 | false ↦ all-find R Q S value k es all.1 ]

module _ {K : Type 0} {R : K → K → Ordering} (o : IsTotalOrder R) where
  -- the total when an entry is put: the value that its key had goes
  pub total-put : (k : K) (v : ℕ) (es : List (K × ℕ)) → T (is_sorted R es) → total (put R k v es) + unwrap_or (find R k es) 0 ≡ total es + v
  total-put k v [] h = omega arith
  total-put k v (e ∷ es) h =
      let rest : total (put R k v es) + unwrap_or (find R k es) 0 ≡ total es + v = total-put k v es (right (below_all R e.0 es) (is_sorted R es) h) in
      elim (R k e.0) as (λ r. R k e.0 ≡ r → total (by_order r ((k, v) ∷ e ∷ es) ((e.0, v) ∷ es) (e ∷ put R k v es)) + unwrap_or (cond (is_eq r) (Some e.1) (find R k es)) 0 ≡ (e.1 + total es) + v) [
        | Less ↦ λ p. subst (λ (f : Option ℕ). (v + (e.1 + total es)) + unwrap_or f 0 ≡ (e.1 + total es) + v) (sym (below_less o k e.0 es p (left _ _ h))) (omega arith)
        | Equal ↦ λ p. omega arith
        | Greater ↦ λ p. omega (arith, rest)
      ] refl

  -- the total when a key is taken out
  pub total-where_key : (k : K) (es : List (K × ℕ)) → T (is_sorted R es) → total (where_key R (λ x. not (eq_by_cmp R k x)) es) + unwrap_or (find R k es) 0 ≡ total es
  total-where_key k [] h = omega arith
  total-where_key k (e ∷ es) h =
      let others = where_key R (λ x. not (eq_by_cmp R k x)) es in
      let rest : total others + unwrap_or (find R k es) 0 ≡ total es = total-where_key k es (right (below_all R e.0 es) (is_sorted R es) h) in
      elim (eq_by_cmp R k e.0) as (λ b. eq_by_cmp R k e.0 ≡ b → total (cond (not b) (e ∷ others) others) + unwrap_or (cond b (Some e.1) (find R k es)) 0 ≡ e.1 + total es) [
        | true ↦ λ p. let gone : total others + 0 ≡ total es = subst (λ (f : Option ℕ). total others + unwrap_or f 0 ≡ total es) (below_tied o k e.0 es (is_equal (R k e.0) p) (left (below_all R e.0 es) (is_sorted R es) h)) rest in omega (arith, gone)
        | false ↦ λ p. omega (arith, rest)
      ] refl
