-- Lists that rise and have the same of each rank in the same order are one list.
use Rattle.std.proofs.Common.{◌≡◌, ℕ, suc, ◌+◌, ◌<◌, Bool, true, false, List, [], ◌∷◌, length, get_or, refl, sym, ap, subst, ◌∙◌, arith, rules}
use Rattle.std.specs.Prelude.{⊤, not, ◌&&◌, cond}
use Rattle.std.specs.Cmp.{IsStrictWeakOrder}
use Rattle.std.specs.List.{filter}
use Rattle.std.specs.List.Sorted.{IsSortedBy, ties}
use Rattle.std.proofs.lemmas.List.Sorted.{sorted_far}

module _ {X : Type 0} (lt : X → X → Bool) where
  -- none is below x
  abbrev pub Least : X → List X → Type 0
  Least x [] = ⊤
  Least x (y ∷ ys) = (lt y x ≡ false) × Least x ys

  -- each is at least what stands before it
  abbrev pub Rises : List X → Type 0
  Rises [] = ⊤
  Rises (x ∷ xs) = Least x xs × Rises xs

  least_from : (x : X) (ys : List X) → ((j : ℕ) (d : X) → j < length ys → lt (get_or ys j d) x ≡ false) → Least x ys
  least_from x [] h = tt
  least_from x (y ∷ ys) h = (h 0 x (omega arith), least_from x ys (λ j d within. h (suc j) d (omega arith)))

  tail_sorted : (x : X) (xs : List X) → IsSortedBy lt (x ∷ xs) → IsSortedBy lt xs
  tail_sorted x xs s k d low high = let same : suc k + 1 ≡ suc (k + 1) = omega arith in
      subst (λ n. lt (get_or (x ∷ xs) n d) (get_or xs k d) ≡ false) same (s (suc k) d (omega arith) (omega arith))

  pub rises_from : IsStrictWeakOrder lt → (xs : List X) → IsSortedBy lt xs → Rises xs
  rises_from o [] s = tt
  rises_from o (x ∷ xs) s = (
    least_from x xs (λ j d within. sorted_far lt o (x ∷ xs) s 0 (suc j) d (omega arith) (omega arith)),
    rises_from o xs (tail_sorted x xs s),
  )

  -- what holds of all holds of the first that passes
  least_of_filter : (p : X → Bool) (x z : X) (ys zs : List X) → Least x ys → filter p ys ≡ z ∷ zs → lt z x ≡ false
  least_of_filter p x z [] zs h e = absurd (search rules)
  least_of_filter p x z (y ∷ ys) zs h e = by_test (least_of_filter p x z ys zs h.1) (p y) refl
    where
      by_test : (filter p ys ≡ z ∷ zs → lt z x ≡ false) → (b : Bool) → p y ≡ b → lt z x ≡ false
      by_test rest true is = let first : y ∷ filter p ys ≡ z ∷ zs = ap (λ c. cond c (y ∷ filter p ys) (filter p ys)) (sym is) ∙ e in
          let same : y ≡ z = search rules in subst (λ w. lt w x ≡ false) same h.0
      by_test rest false is = rest (ap (λ c. cond c (y ∷ filter p ys) (filter p ys)) (sym is) ∙ e)

  -- what passes at the front
  front : (p : X → Bool) (x : X) (xs : List X) → p x ≡ true → filter p (x ∷ xs) ≡ x ∷ filter p xs
  front p x xs is = ap (λ c. cond c (x ∷ filter p xs) (filter p xs)) is

  passed : (p : X → Bool) (x : X) (xs : List X) → p x ≡ false → filter p (x ∷ xs) ≡ filter p xs
  passed p x xs is = ap (λ c. cond c (x ∷ filter p xs) (filter p xs)) is

  not_below_itself : IsStrictWeakOrder lt → (x : X) → lt x x ≡ false
  not_below_itself o x = by_test (lt x x) refl
    where
      by_test : (b : Bool) → lt x x ≡ b → lt x x ≡ false
      by_test true is = o.one_way x x is
      by_test false is = is

  ties_itself : IsStrictWeakOrder lt → (x : X) → ties lt x x ≡ true
  ties_itself o x = ap (λ b. not b && not b) (not_below_itself o x)

  tie : (x y : X) → lt x y ≡ false → lt y x ≡ false → ties lt x y ≡ true
  tie x y a b = ap (λ c. not c && not (lt y x)) a ∙ ap (λ c. not false && not c) b

  abbrev pub SameRanks : List X → List X → Type 0
  SameRanks xs ys = (z : X) → filter (ties lt z) xs ≡ filter (ties lt z) ys

  -- the first of a list isn't above the first of the other
  first_least : IsStrictWeakOrder lt → (x y : X) (xs ys : List X) → Rises (y ∷ ys) → SameRanks (x ∷ xs) (y ∷ ys) → lt x y ≡ false
  first_least o x y xs ys rises same = least_of_filter (ties lt x) y x (y ∷ ys) (filter (ties lt x) xs) (not_below_itself o y, rises.0)
      (sym (same x) ∙ front (ties lt x) x xs (ties_itself o x))

  same_first : IsStrictWeakOrder lt → (x y : X) (xs ys : List X) → Rises (x ∷ xs) → Rises (y ∷ ys) → SameRanks (x ∷ xs) (y ∷ ys) → x ≡ y
  same_first o x y xs ys up rises same =
      let below = first_least o x y xs ys rises same in
      let above = first_least o y x ys xs up (λ z. sym (same z)) in
      let both : x ∷ filter (ties lt x) xs ≡ y ∷ filter (ties lt x) ys =
      sym (front (ties lt x) x xs (ties_itself o x)) ∙ same x ∙ front (ties lt x) y ys (tie x y below above) in
      search rules

  same_rest : (x : X) (xs ys : List X) → SameRanks (x ∷ xs) (x ∷ ys) → SameRanks xs ys
  same_rest x xs ys same z = by_test (ties lt z x) refl
    where
      by_test : (b : Bool) → ties lt z x ≡ b → filter (ties lt z) xs ≡ filter (ties lt z) ys
      by_test true is = let both : x ∷ filter (ties lt z) xs ≡ x ∷ filter (ties lt z) ys =
          sym (front (ties lt z) x xs is) ∙ same z ∙ front (ties lt z) x ys is in search rules
      by_test false is = sym (passed (ties lt z) x xs is) ∙ same z ∙ passed (ties lt z) x ys is

  pub one_list : IsStrictWeakOrder lt → (xs ys : List X) → Rises xs → Rises ys → SameRanks xs ys → xs ≡ ys
  one_list o [] [] up rises same = refl
  one_list o [] (y ∷ ys) up rises same = let none : [] ≡ y ∷ filter (ties lt y) ys = same y ∙ front (ties lt y) y ys (ties_itself o y) in absurd (search rules)
  one_list o (x ∷ xs) [] up rises same = let none : x ∷ filter (ties lt x) xs ≡ [] = sym (front (ties lt x) x xs (ties_itself o x)) ∙ same x in absurd (search rules)
  one_list o (x ∷ xs) (y ∷ ys) up rises same =
      let first = same_first o x y xs ys up rises same in
      let rest = same_rest x xs ys (subst (λ w. SameRanks (x ∷ xs) (w ∷ ys)) (sym first) same) in
      ap (λ w. w ∷ xs) first ∙ ap (λ l. y ∷ l) (one_list o xs ys up.1 rises.1 rest)
