-- What is found and put among entries in the order of their keys, by how the key stands to one of them.
use Rattle.std.proofs.Common.{◌≡◌, true, cond, List, [], ◌∷◌, ◌++◌, Some, None, refl, ap, ◌∙◌}
use Rattle.std.proofs.lemmas.Bool.{and_from, and_parts}
use Rattle.std.specs.declared.cmp.Ordering.{Ordering}
use Rattle.std.specs.declared.cmp.Ordering.TheVariants.{Less, Equal, Greater}
use Rattle.std.specs.Ordering.{is_lt, is_eq, ordering_reverse}
use Rattle.std.specs.Cmp.{IsTotalOrder}
use Rattle.std.specs.FinMap.Entries.{below_all, by_order, find, is_sorted, put}

is_less : (r : Ordering) → is_lt r ≡ true → r ≡ Less
is_less Less e = refl
is_less Equal e = absurd cc
is_less Greater e = absurd cc

turned : {K : Type 0} {R : K → K → Ordering} → IsTotalOrder R → (x y : K) (r : Ordering) → R x y ≡ r → R y x ≡ ordering_reverse r
turned o x y r e = o.antisymm y x ∙ ap ordering_reverse e

module _ {K X : Type 0} {R : K → K → Ordering} (o : IsTotalOrder R) where
  -- ---- the entries before one, and those after it

  below_before : (x : K) (l m : List (K × X)) → below_all R x (l ++ m) ≡ true → below_all R x l ≡ true
  below_before x [] m h = refl
  below_before x (a ∷ l) m h = and_from _ _ (and_parts _ _ h).0 (below_before x l m (and_parts _ _ h).1)

  below_one : (x : K) (l : List (K × X)) (e : K × X) (r : List (K × X)) → below_all R x (l ++ e ∷ r) ≡ true → R x e.0 ≡ Less
  below_one x [] e r h = is_less _ (and_parts _ _ h).0
  below_one x (a ∷ l) e r h = below_one x l e r (and_parts _ _ h).1

  pub sorted_before : (l : List (K × X)) (m : List (K × X)) → is_sorted R (l ++ m) ≡ true → is_sorted R l ≡ true
  sorted_before [] m h = refl
  sorted_before (a ∷ l) m h = and_from _ _ (below_before a.0 l m (and_parts _ _ h).0) (sorted_before l m (and_parts _ _ h).1)

  sorted_from : (l m : List (K × X)) → is_sorted R (l ++ m) ≡ true → is_sorted R m ≡ true
  sorted_from [] m h = h
  sorted_from (a ∷ l) m h = sorted_from l m (and_parts _ _ h).1

  pub sorted_after : (l : List (K × X)) (e : K × X) (r : List (K × X)) → is_sorted R (l ++ e ∷ r) ≡ true → is_sorted R r ≡ true
  sorted_after l e r h = (and_parts _ _ (sorted_from l (e ∷ r) h)).1

  -- what isn't below an entry is above those before it
  above_greater : (k : K) (a e : K × X) → R a.0 e.0 ≡ Less → R k e.0 ≡ Greater → R k a.0 ≡ Greater
  above_greater k a e low high = turned o a.0 k Less (o.trans a.0 e.0 k low (turned o k e.0 Greater high))

  above_equal : (k : K) (a e : K × X) → R a.0 e.0 ≡ Less → R k e.0 ≡ Equal → R k a.0 ≡ Greater
  above_equal k a e low tie = o.congr k e.0 a.0 tie ∙ turned o a.0 e.0 Less low

  -- ---- a key before the entry, at it, and after it

  pub put_before : (k : K) (v : X) (l : List (K × X)) (e : K × X) (r : List (K × X)) → R k e.0 ≡ Less → put R k v (l ++ e ∷ r) ≡ put R k v l ++ e ∷ r
  put_before k v [] e r low = ap (λ s. by_order s ((k, v) ∷ e ∷ r) ((e.0, v) ∷ r) (e ∷ put R k v r)) low
  put_before k v (a ∷ l) e r low =
      elim (R k a.0) as (λ s. by_order s ((k, v) ∷ a ∷ (l ++ e ∷ r)) ((a.0, v) ∷ (l ++ e ∷ r)) (a ∷ put R k v (l ++ e ∷ r)) ≡ by_order s ((k, v) ∷ a ∷ l) ((a.0, v) ∷ l) (a ∷ put R k v l) ++ e ∷ r) [
        | Less ↦ refl
        | Equal ↦ refl
        | Greater ↦ ap (λ t. a ∷ t) (put_before k v l e r low)
      ]

  put_behind : (k : K) (v : X) (a : K × X) (m : List (K × X)) → R k a.0 ≡ Greater → put R k v (a ∷ m) ≡ a ∷ put R k v m
  put_behind k v a m high = ap (λ s. by_order s ((k, v) ∷ a ∷ m) ((a.0, v) ∷ m) (a ∷ put R k v m)) high

  pub put_here : (k : K) (v : X) (l : List (K × X)) (e : K × X) (r : List (K × X)) → is_sorted R (l ++ e ∷ r) ≡ true → R k e.0 ≡ Equal → put R k v (l ++ e ∷ r) ≡ l ++ (e.0, v) ∷ r
  put_here k v [] e r up tie = ap (λ s. by_order s ((k, v) ∷ e ∷ r) ((e.0, v) ∷ r) (e ∷ put R k v r)) tie
  put_here k v (a ∷ l) e r up tie =
      put_behind k v a (l ++ e ∷ r) (above_equal k a e (below_one a.0 l e r (and_parts _ _ up).0) tie) ∙ ap (λ t. a ∷ t) (put_here k v l e r (and_parts _ _ up).1 tie)

  pub put_after : (k : K) (v : X) (l : List (K × X)) (e : K × X) (r : List (K × X)) → is_sorted R (l ++ e ∷ r) ≡ true → R k e.0 ≡ Greater → put R k v (l ++ e ∷ r) ≡ l ++ e ∷ put R k v r
  put_after k v [] e r up high = put_behind k v e r high
  put_after k v (a ∷ l) e r up high =
      put_behind k v a (l ++ e ∷ r) (above_greater k a e (below_one a.0 l e r (and_parts _ _ up).0) high) ∙ ap (λ t. a ∷ t) (put_after k v l e r (and_parts _ _ up).1 high)

  find_on : (q : K) (a : K × X) (m : List (K × X)) (r : Ordering) → R q a.0 ≡ r → find R q (a ∷ m) ≡ cond (is_eq r) (Some a.1) (find R q m)
  find_on q a m r e = ap (λ s. cond (is_eq s) (Some a.1) (find R q m)) e

  find_below : (q x : K) (m : List (K × X)) → R q x ≡ Less → below_all R x m ≡ true → find R q m ≡ None
  find_below q x [] low h = refl
  find_below q x (a ∷ m) low h =
      find_on q a m Less (o.trans q x a.0 low (is_less _ (and_parts _ _ h).0)) ∙ find_below q x m low (and_parts _ _ h).1

  pub find_before : (q : K) (l : List (K × X)) (e : K × X) (r : List (K × X)) → is_sorted R (l ++ e ∷ r) ≡ true → R q e.0 ≡ Less → find R q (l ++ e ∷ r) ≡ find R q l
  find_before q [] e r up low = find_on q e r Less low ∙ find_below q e.0 r low (and_parts _ _ up).0
  find_before q (a ∷ l) e r up low = ap (λ t. cond (is_eq (R q a.0)) (Some a.1) t) (find_before q l e r (and_parts _ _ up).1 low)

  pub find_here : (q : K) (l : List (K × X)) (e : K × X) (r : List (K × X)) → is_sorted R (l ++ e ∷ r) ≡ true → R q e.0 ≡ Equal → find R q (l ++ e ∷ r) ≡ Some e.1
  find_here q [] e r up tie = find_on q e r Equal tie
  find_here q (a ∷ l) e r up tie =
      find_on q a (l ++ e ∷ r) Greater (above_equal q a e (below_one a.0 l e r (and_parts _ _ up).0) tie) ∙ find_here q l e r (and_parts _ _ up).1 tie

  pub find_after : (q : K) (l : List (K × X)) (e : K × X) (r : List (K × X)) → is_sorted R (l ++ e ∷ r) ≡ true → R q e.0 ≡ Greater → find R q (l ++ e ∷ r) ≡ find R q r
  find_after q [] e r up high = find_on q e r Greater high
  find_after q (a ∷ l) e r up high =
      find_on q a (l ++ e ∷ r) Greater (above_greater q a e (below_one a.0 l e r (and_parts _ _ up).0) high) ∙ find_after q l e r (and_parts _ _ up).1 high
