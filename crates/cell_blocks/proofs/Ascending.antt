-- Entries whose keys ascend: their parts, what a map of them has at a place, and what it has after a change at a place.
use Rattle.std.proofs.Common.{◌≡◌, ℕ, zero, suc, ◌<◌, Bool, true, false, not, cond, List, [], ◌∷◌, ◌++◌, length, get_or, set, Some, None, Ordering, refl, sym, ap, subst, ◌∙◌, arith}
use Rattle.std.specs.Prelude.{IsTrue, is_some, slice_get, remove}
use Rattle.std.specs.declared.cmp.Ordering.TheVariants.{Less}
use Rattle.std.specs.Ordering.{is_eq, eq_by_cmp}
use Rattle.std.specs.Option.{option_map}
use Rattle.std.specs.Cmp.{IsTotalOrder, alike_right, eq_by_cmp_equiv}
use Rattle.std.specs.FinMap.{IsAntisymmetric, find, put, is_sorted, get, contains_key, insert, from_sorted, get-from_sorted, get-remove, entries-from_sorted, entries-insert, same_entries_map, same_map}
use Rattle.std.specs.FinMap as finmap
use Rattle.std.specs.FinMap.Entries.{below_all, is_sorted-put, where_key, is_sorted-where_key, find-where_key}
use Rattle.std.proofs.lemmas.List.Edits.{insert_end}
use Rattle.value_core.specs.Places.{IsGap, IsPlace}
use Rattle.value_core.proofs.PlaceLemmas.{find-place, find-gap, put-gap, put-place, removed-place, rises}
use Rattle.value_core.proofs.Bools.{T_of, true_of, both_true, first_true, second_true}

-- what is read at a place, whatever is read past the end
pub record IsRead {A : Type 0} (xs : List A) (i : ℕ) : Type 0 where
  pub item : A
  pub reads : slice_get xs i ≡ Some item
  pub same : (d : A) → get_or xs i d ≡ item

pub read_at : {A : Type 0} (xs : List A) (i : ℕ) → i < length xs → IsRead xs i
read_at [] i lt = absurd (omega arith)
read_at (x ∷ xs) zero lt = record { item = x; reads = refl; same = λ d. refl }
read_at (x ∷ xs) (suc i) lt = let r = read_at xs i (omega arith) in record { item = r.item; reads = r.reads; same = r.same }

turned : {A : Type 0} (b : Bool) (x y : A) → cond (not b) x y ≡ cond b y x
turned true x y = refl
turned false x y = refl

-- whether a key is another one
abbrev pub is_other : {K : Type 0} → (K → K → Ordering) → K → K → Bool
is_other R q x = not (eq_by_cmp R q x)

module _ {K X : Type 0} {R : K → K → Ordering} (o : IsTotalOrder R) where
  abbrev pub key_of : K × X → K
  key_of e = e.0

  -- ---- parts

  below_front : (k : K) (xs ys : List (K × X)) → below_all R k (xs ++ ys) ≡ true → below_all R k xs ≡ true
  below_front k [] ys h = refl
  below_front k (x ∷ xs) ys h = both_true _ _ (first_true _ _ h) (below_front k xs ys (second_true _ _ h))

  pub ascends_front : (xs ys : List (K × X)) → IsTrue (is_sorted R (xs ++ ys)) → IsTrue (is_sorted R xs)
  ascends_front [] ys h = refl
  ascends_front (x ∷ xs) ys h = both_true _ _ (below_front x.0 xs ys (first_true _ _ h)) (ascends_front xs ys (second_true _ _ h))

  pub ascends_back : (xs ys : List (K × X)) → IsTrue (is_sorted R (xs ++ ys)) → IsTrue (is_sorted R ys)
  ascends_back [] ys h = h
  ascends_back (x ∷ xs) ys h = ascends_back xs ys (second_true _ _ h)

  -- ---- what stands at a place

  pub get_place : (es : List (K × X)) (q : K) (i : ℕ) → IsTrue (is_sorted R es) → IsPlace key_of es q i → option_map (λ (e : K × X). e.1) (slice_get es i) ≡ get (from_sorted {R = R} es) q
  get_place es q i up p =
      let r = read_at es i p.within in
      ap (option_map (λ (e : K × X). e.1)) r.reads
      ∙ ap (λ (e : K × X). Some e.1) (sym (r.same r.item))
      ∙ sym (find-place o es q i r.item up p)
      ∙ sym (get-from_sorted R es q (T_of _ up))

  pub get_gap : (es : List (K × X)) (q : K) (i : ℕ) → IsTrue (is_sorted R es) → IsGap key_of R es q i → get (from_sorted {R = R} es) q ≡ None
  get_gap es q i up g = get-from_sorted R es q (T_of _ up) ∙ find-gap o es q i g

  pub get_read : (es : List (K × X)) (i : ℕ) (r : IsRead es i) → i < length es → IsTrue (is_sorted R es) → get (from_sorted {R = R} es) r.item.0 ≡ Some r.item.1
  get_read es i r lt up =
      sym (get_place es r.item.0 i up (record { within = lt; here = λ d. ap (λ (e : K × X). e.0) (r.same d) }))
      ∙ ap (option_map (λ (e : K × X). e.1)) r.reads

  -- ---- one more at the end

  pub gap_end : (es : List (K × X)) (q : K) → IsTrue (is_sorted R es) → ((other : K) → contains_key (from_sorted {R = R} es) other ≡ true → R other q ≡ Less) → IsGap key_of R es q (length es)
  gap_end es q up above = record {
    within = omega arith;
    below = λ k d lt.
        let r = read_at es k lt in
        ap (λ (e : K × X). R e.0 q) (r.same d) ∙ above r.item.0 (ap is_some (get_read es k r lt up));
    above = λ k d le lt. absurd (omega arith);
  }

  put_end : (es : List (K × X)) (q : K) (v : X) → IsGap key_of R es q (length es) → put R q v es ≡ es ++ (q, v) ∷ []
  put_end es q v g = put-gap o es q (length es) v g ∙ insert_end es (q, v)

  pub pushed_ascends : (es : List (K × X)) (q : K) (v : X) → IsTrue (is_sorted R es) → IsGap key_of R es q (length es) → IsTrue (is_sorted R (es ++ (q, v) ∷ []))
  pushed_ascends es q v up g = subst (λ (l : List (K × X)). IsTrue (is_sorted R l)) (put_end es q v g) (true_of _ (is_sorted-put R o q v es (T_of _ up)))

  pub pushed : (es : List (K × X)) (q : K) (v : X) → IsTrue (is_sorted R es) → IsGap key_of R es q (length es) → from_sorted {R = R} (es ++ (q, v) ∷ []) ≡ insert (from_sorted es) q v
  pushed es q v up g =
      same_entries_map _ _
      (entries-from_sorted R (es ++ (q, v) ∷ []) (T_of _ (pushed_ascends es q v up g))
      ∙ sym (put_end es q v g)
      ∙ ap (put R q v) (sym (entries-from_sorted R es (T_of _ up)))
      ∙ sym (entries-insert o (from_sorted es) q v))

  -- ---- another value at a place

  pub replaced_ascends : (es : List (K × X)) (q : K) (i : ℕ) (v : X) → IsTrue (is_sorted R es) → IsPlace key_of es q i → IsTrue (is_sorted R (set es i (q, v)))
  replaced_ascends es q i v up p = subst (λ (l : List (K × X)). IsTrue (is_sorted R l)) (put-place o es q i v up p) (true_of _ (is_sorted-put R o q v es (T_of _ up)))

  pub replaced : (es : List (K × X)) (q : K) (i : ℕ) (v : X) → IsTrue (is_sorted R es) → IsPlace key_of es q i → from_sorted {R = R} (set es i (q, v)) ≡ insert (from_sorted es) q v
  replaced es q i v up p =
      same_entries_map _ _
      (entries-from_sorted R (set es i (q, v)) (T_of _ (replaced_ascends es q i v up p))
      ∙ sym (put-place o es q i v up p)
      ∙ ap (put R q v) (sym (entries-from_sorted R es (T_of _ up)))
      ∙ sym (entries-insert o (from_sorted es) q v))

  -- ---- none at a place any more

  others_left : (es : List (K × X)) (q : K) (i : ℕ) → IsTrue (is_sorted R es) → IsPlace key_of es q i → where_key R (is_other R q) es ≡ remove es i
  others_left es q i up p = removed-place o key_of es q i (λ j k d lt small. rises o es j k d up lt small) p

  pub removed_ascends : (es : List (K × X)) (q : K) (i : ℕ) → IsTrue (is_sorted R es) → IsPlace key_of es q i → IsTrue (is_sorted R (remove es i))
  removed_ascends es q i up p = subst (λ (l : List (K × X)). IsTrue (is_sorted R l)) (others_left es q i up p) (true_of _ (is_sorted-where_key R (is_other R q) es (T_of _ up)))

  pub removed : IsAntisymmetric R → (es : List (K × X)) (q : K) (i : ℕ) → IsTrue (is_sorted R es) → IsPlace key_of es q i → from_sorted {R = R} (remove es i) ≡ finmap.remove (from_sorted es) q
  removed ties es q i up p =
      same_map o ties _ _
      (λ k.
      get-from_sorted R (remove es i) k (T_of _ (removed_ascends es q i up p))
      ∙ ap (find R k) (sym (others_left es q i up p))
      ∙ find-where_key R (is_other R q) k (λ x t. ap (λ r. not (is_eq r)) (sym (alike_right o k x q t))) es
      ∙ turned (eq_by_cmp R q k) _ _
      ∙ ap (λ b. cond b None (find R k es)) ((eq_by_cmp_equiv o).symm q k)
      ∙ ap (cond (eq_by_cmp R k q) None) (sym (get-from_sorted R es k (T_of _ up)))
      ∙ sym (get-remove o (from_sorted es) q k))
