-- Rows that are read from the front: what is copied so far, and what is the same so far.
use Rattle.std.proofs.Common.{◌≡◌, ℕ, zero, suc, ◌+◌, ◌<◌, List, [], ◌∷◌, ◌++◌, map, take, length, get_or, Some, refl, sym, ap, ◌∙◌, arith, add-one}
use Rattle.std.specs.Prelude.{slice_get}
use Rattle.std.specs.Option.{option_map}
use Rattle.std.proofs.lemmas.Option.{same_Some, slice_get-get_or, slice_get-map}

module _ {A B : Type 0} (f : A → B) where
  one_more : (xs : List A) (i : ℕ) (d : A) → i < length xs → map f (take (suc i) xs) ≡ map f (take i xs) ++ f (get_or xs i d) ∷ []
  one_more [] i d lt = absurd (omega arith)
  one_more (x ∷ xs) zero d lt = refl
  one_more (x ∷ xs) (suc i) d lt = ap (λ l. f x ∷ l) (one_more xs i d (omega arith))

  -- one more that is read
  pub map-take_more : (xs : List A) (i : ℕ) (x : A) → i < length xs → x ≡ get_or xs i x → map f (take (i + 1) xs) ≡ map f (take i xs) ++ f x ∷ []
  map-take_more xs i x lt read = ap (λ n. map f (take n xs)) (add-one i) ∙ one_more xs i x lt ∙ ap (λ y. map f (take i xs) ++ f y ∷ []) (sym read)

  map-end : (xs : List A) (x : A) → map f (xs ++ x ∷ []) ≡ map f xs ++ f x ∷ []
  map-end [] x = refl
  map-end (y ∷ xs) x = ap (λ l. f y ∷ l) (map-end xs x)

  -- a copy of the next item, at the end of the copies so far
  pub copied_more : (copied new xs : List A) (i : ℕ) (x y : A) → map f copied ≡ map f (take i xs) → new ≡ copied ++ y ∷ [] → f y ≡ f x → i < length xs → x ≡ get_or xs i x → map f new ≡ map f (take (i + 1) xs)
  copied_more copied new xs i x y before is same lt read =
      ap (map f) is ∙ map-end copied y ∙ ap (λ l. l ++ f y ∷ []) before ∙ ap (λ z. map f (take i xs) ++ z ∷ []) same ∙ sym (map-take_more xs i x lt read)

  -- two items that are the same, behind what is the same so far
  pub same_more : (xs ys : List A) (i : ℕ) (x y : A) → i < length xs → i < length ys → x ≡ get_or xs i x → y ≡ get_or ys i y → f x ≡ f y → map f (take i xs) ≡ map f (take i ys) → map f (take (i + 1) xs) ≡ map f (take (i + 1) ys)
  same_more xs ys i x y lt lt' read read' same before =
      map-take_more xs i x lt read ∙ (λ k. before k ++ same k ∷ []) ∙ sym (map-take_more ys i y lt' read')

  at : (xs : List A) (i : ℕ) (x : A) → i < length xs → x ≡ get_or xs i x → slice_get (map f xs) i ≡ Some (f x)
  at xs i x lt read = slice_get-map f xs i ∙ ap (option_map f) (slice_get-get_or xs i x lt) ∙ ap (λ y. Some (f y)) (sym read)

  -- two items that differ tell two lists apart
  pub same_items : (xs ys : List A) (i : ℕ) (x y : A) → i < length xs → i < length ys → x ≡ get_or xs i x → y ≡ get_or ys i y → map f xs ≡ map f ys → f x ≡ f y
  same_items xs ys i x y lt lt' read read' same = same_Some _ _ (sym (at xs i x lt read) ∙ ap (λ l. slice_get l i) same ∙ at ys i y lt' read')
