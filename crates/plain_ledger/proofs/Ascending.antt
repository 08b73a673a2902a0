-- Entries whose keys ascend: their parts, and where a key stands among them.
use Rattle.std.proofs.Common.{◌≡◌, ℕ, zero, suc, Bool, true, List, [], ◌∷◌, ◌++◌, drop, Ordering, refl, ap, ◌∙◌}
use Rattle.std.specs.declared.cmp.Ordering.TheVariants.{Less, Greater}
use Rattle.std.specs.Ordering.{is_lt, ordering_reverse}
use Rattle.std.specs.List.{list_all}
use Rattle.std.specs.Cmp.{IsTotalOrder}
use Rattle.std.specs.FinMap.{is_sorted, find}
use Rattle.std.specs.FinMap.Entries.{below_all}
use Rattle.value_core.proofs.Bools.{both_true, first_true, second_true}
use Rattle.value_core.proofs.PlaceLemmas.{is_Less}

pub greater_is : {K : Type 0} {R : K → K → Ordering} → IsTotalOrder R → (x y : K) → R x y ≡ Less → R y x ≡ Greater
greater_is o x y e = o.antisymm y x ∙ ap ordering_reverse e

module _ {K : Type 0} {R : K → K → Ordering} (o : IsTotalOrder R) {X : Type 0} where
  -- what is above the next key is above this one
  pub below_all_less : (x y : K) (es : List (K × X)) → R x y ≡ Less → below_all R y es ≡ true → below_all R x es ≡ true
  below_all_less x y [] p h = refl
  below_all_less x y (e ∷ es) p h =
      let here : R x e.0 ≡ Less = o.trans x y e.0 p (is_Less (R y e.0) (first_true _ _ h)) in
      both_true _ _ (ap is_lt here) (below_all_less x y es p (second_true _ _ h))

  pub is_sorted-drop : (n : ℕ) (es : List (K × X)) → is_sorted R es ≡ true → is_sorted R (drop n es) ≡ true
  is_sorted-drop zero es h = h
  is_sorted-drop (suc n) [] h = h
  is_sorted-drop (suc n) (e ∷ es) h = is_sorted-drop n es (second_true _ _ h)

  -- each key in front is below this one
  abbrev pub are_below : K → List (K × X) → Bool
  are_below k front = list_all (λ e. is_lt (R e.0 k)) front

  pub are_below_less : (k q : K) (front : List (K × X)) → R k q ≡ Less → are_below k front ≡ true → are_below q front ≡ true
  are_below_less k q [] p h = refl
  are_below_less k q (e ∷ front) p h =
      let here : R e.0 q ≡ Less = o.trans e.0 k q (is_Less (R e.0 k) (first_true _ _ h)) p in
      both_true _ _ (ap is_lt here) (are_below_less k q front p (second_true _ _ h))

  -- each key in front is below each of these
  abbrev pub are_before : List (K × X) → List (K × X) → Bool
  are_before front cs = list_all (λ c. are_below c.0 front) cs

  pub are_before-next : (k : K) (front cs : List (K × X)) → below_all R k cs ≡ true → are_below k front ≡ true → are_before front cs ≡ true
  are_before-next k front [] h f = refl
  are_before-next k front (c ∷ cs) h f =
      both_true _ _ (are_below_less k c.0 front (is_Less (R k c.0) (first_true _ _ h)) f) (are_before-next k front cs (second_true _ _ h) f)

  pub find_past : (q : K) (front back : List (K × X)) → are_below q front ≡ true → find R q (front ++ back) ≡ find R q back
  find_past q [] back h = refl
  find_past q (e ∷ front) back h =
      let here : R q e.0 ≡ Greater = greater_is o e.0 q (is_Less (R e.0 q) (first_true _ _ h)) in
      rw here (find_past q front back (second_true _ _ h))
