-- Vectors seen from their ends: what stands above and below a place.
use Rattle.std.proofs.Common.{◌≡◌, ℕ, suc, ◌+◌, ◌<◌, List, [], ◌∷◌, ◌++◌, length, take, drop, get_or, sym, ap, ◌∙◌, append_assoc, arith, length-drop, reverse}
use Rattle.std.proofs.Math.Seq.{drop-cons}
use Rattle.std.specs.List.{insert, remove}
use Rattle.std.proofs.lemmas.List.{drop_at, length-reverse, reverse-append, take-append-drop, take_at}

module _ {A : Type 0} where
  -- the first of a list comes last
  pub reverse-cons : (x : A) (xs : List A) → reverse (x ∷ xs) ≡ reverse xs ++ x ∷ []
  reverse-cons x xs = reverse-append (x ∷ []) xs

  -- one item more from the one list onto the other
  pub moved_over : (x : A) (xs ys : List A) → reverse (x ∷ xs) ++ ys ≡ reverse xs ++ x ∷ ys
  moved_over x xs ys = ap (λ zs. zs ++ ys) (reverse-cons x xs) ∙ append_assoc (reverse xs) (x ∷ []) ys

  -- how many stand behind a place
  behind : (xs : List A) (i n : ℕ) → n + i ≡ length xs → length (reverse (drop i xs)) ≡ n
  behind xs i n e = length-reverse (drop i xs) ∙ omega (arith, length-drop i xs)

  -- a list and a list behind it, seen from the end
  parted : (xs : List A) (i : ℕ) → reverse xs ≡ reverse (drop i xs) ++ reverse (take i xs)
  parted xs i = ap reverse (sym (take-append-drop i xs)) ∙ reverse-append (take i xs) (drop i xs)

  -- what is left where so many are taken from the end
  pub below_the_last : (xs : List A) (i n : ℕ) → n + i ≡ length xs → drop n (reverse xs) ≡ reverse (take i xs)
  below_the_last xs i n e = ap (drop n) (parted xs i) ∙ drop_at (reverse (drop i xs)) (reverse (take i xs)) n (behind xs i n e)

  -- an item between what stands behind it and before it
  with_item : (xs : List A) (i : ℕ) (x : A) → drop i xs ≡ x ∷ drop (suc i) xs → reverse xs ≡ reverse (drop (suc i) xs) ++ (x ∷ reverse (take i xs))
  with_item xs i x e = parted xs i ∙ ap (λ ys. reverse ys ++ reverse (take i xs)) e ∙ moved_over x (drop (suc i) xs) (reverse (take i xs))

  here : (xs : List A) (i : ℕ) (x : A) → x ≡ get_or xs i x → i < length xs → drop i xs ≡ x ∷ drop (suc i) xs
  here xs i x e h = drop-cons xs i x h ∙ ap (λ y. y ∷ drop (suc i) xs) (sym e)

  -- an item is taken out: what stands above it
  pub above_the_removed : (xs : List A) (i n : ℕ) (x : A) → x ≡ get_or xs i x → n + suc i ≡ length xs → take n (reverse xs) ≡ take n (reverse (remove xs i))
  above_the_removed xs i n x e l =
      let within : i < length xs = omega arith in
      let many : length (reverse (drop (suc i) xs)) ≡ n = behind xs (suc i) n l in
      ap (take n) (with_item xs i x (here xs i x e within)) ∙ take_at (reverse (drop (suc i) xs)) (x ∷ reverse (take i xs)) n many
      ∙ sym (ap (take n) (reverse-append (take i xs) (drop (suc i) xs)) ∙ take_at (reverse (drop (suc i) xs)) (reverse (take i xs)) n many)

  -- and below it
  pub below_the_removed : (xs : List A) (i n : ℕ) (x : A) → x ≡ get_or xs i x → n + suc i ≡ length xs → drop n (reverse xs) ≡ x ∷ drop n (reverse (remove xs i))
  below_the_removed xs i n x e l =
      let within : i < length xs = omega arith in
      let many : length (reverse (drop (suc i) xs)) ≡ n = behind xs (suc i) n l in
      ap (drop n) (with_item xs i x (here xs i x e within)) ∙ drop_at (reverse (drop (suc i) xs)) (x ∷ reverse (take i xs)) n many
      ∙ ap (λ ys. x ∷ ys) (sym (ap (drop n) (reverse-append (take i xs) (drop (suc i) xs)) ∙ drop_at (reverse (drop (suc i) xs)) (reverse (take i xs)) n many))

  -- a list with an item more, seen from the end
  with_inserted : (xs : List A) (i : ℕ) (x : A) → reverse (insert xs i x) ≡ reverse (drop i xs) ++ (x ∷ reverse (take i xs))
  with_inserted xs i x = reverse-append (take i xs) (x ∷ drop i xs) ∙ moved_over x (drop i xs) (reverse (take i xs))

  -- an item is put in: what stands above it
  pub above_the_inserted : (xs : List A) (i n : ℕ) (x : A) → n + i ≡ length xs → take n (reverse (insert xs i x)) ≡ take n (reverse xs)
  above_the_inserted xs i n x l =
      let many : length (reverse (drop i xs)) ≡ n = behind xs i n l in
      ap (take n) (with_inserted xs i x) ∙ take_at (reverse (drop i xs)) (x ∷ reverse (take i xs)) n many
      ∙ sym (ap (take n) (parted xs i) ∙ take_at (reverse (drop i xs)) (reverse (take i xs)) n many)

  -- and below it
  pub below_the_inserted : (xs : List A) (i n : ℕ) (x : A) → n + i ≡ length xs → drop n (reverse (insert xs i x)) ≡ x ∷ drop n (reverse xs)
  below_the_inserted xs i n x l =
      let many : length (reverse (drop i xs)) ≡ n = behind xs i n l in
      ap (drop n) (with_inserted xs i x) ∙ drop_at (reverse (drop i xs)) (x ∷ reverse (take i xs)) n many
      ∙ ap (λ ys. x ∷ ys) (sym (below_the_last xs i n l))
