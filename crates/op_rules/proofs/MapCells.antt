-- The big map of a contract at a place has at each key what the cell of that entry has.
use Rattle.std.proofs.Common.{◌≡◌, ℕ, Bool, true, false, cond, ◌&&◌, ◌==◌, List, [], ◌∷◌, Option, Some, refl, sym, ap, subst, ◌∙◌, eq-eqb}
use Rattle.std.specs.Prelude.{if◌then◌else◌}
use Rattle.std.specs.declared.cmp.Ordering.{Ordering}
use Rattle.std.specs.declared.cmp.Ordering.TheVariants.{Less, Equal, Greater}
use Rattle.std.specs.Ordering.{eq_by_cmp, is_eq, is_lt, nat_cmp, ordering_then}
use Rattle.std.specs.Cmp.{tied_itself}
use Rattle.std.specs.Cmp.Lexicographic.{nat_list_cmp_total}
use Rattle.std.specs.Str.{bytes_eq}
use Rattle.std.specs.FinMap.{entries, entries_sorted, find, get, get-entries, get-from_sorted, is_sorted}
use Rattle.std.specs.FinMap.Entries.{below_all}
use Rattle.std.specs.Cmp.{nat_cmp_total}
use Rattle.std.proofs.lemmas.Bool.{eqb-true}
use Rattle.std.proofs.lemmas.Slice.Eq.{bytes_eq-Decides}
use Rattle.value_core.specs.declared.val.Val.{Val}
use Rattle.value_core.specs.Order.{order}
use Rattle.value_core.proofs.Bools.{T_of, both_true, first_true, second_true, true_of}
use Rattle.value_core.proofs.SortedValues.{total}
use Rattle.cell_names.specs.declared.cell.Cell.{Cell}
use Rattle.cell_names.specs.declared.cell.Cell.TheVariants.{Balance, Storage, Entry}
use Rattle.cell_names.specs.Cells.{cell_cmp}
use Rattle.cell_names.specs.Contents.{Contents}
use Rattle.cell_names.proofs.Puts.{is_one, one_from}
use Rattle.op_rules.specs.Worlds.{entries_at, map_at}

-- ---- tests that say the same

alike : (b c : Bool) → (b ≡ true → c ≡ true) → (c ≡ true → b ≡ true) → b ≡ c
alike true c p q = sym (p refl)
alike false true p q = q refl
alike false false p q = refl

tie_of : (r : Ordering) → is_eq r ≡ true → r ≡ Equal
tie_of Less e = absurd cc
tie_of Equal e = refl
tie_of Greater e = absurd cc

module _ (self : List ℕ) (place : ℕ) where
  -- the entry is one of this big map
  abbrev pub is_here : List ℕ → ℕ → Bool
  is_here a p = bytes_eq a self && p == place

  here_address : (a : List ℕ) (p : ℕ) → is_here a p ≡ true → a ≡ self
  here_address a p e = (bytes_eq-Decides a self).0 (first_true _ _ e)

  here_place : (a : List ℕ) (p : ℕ) → is_here a p ≡ true → p ≡ place
  here_place a p e = eqb-true p place (second_true _ _ e)

  here_of : (a : List ℕ) (p : ℕ) → a ≡ self → p ≡ place → is_here a p ≡ true
  here_of a p e f = both_true _ _ ((bytes_eq-Decides a self).1 e) (eq-eqb p place f)

  -- ---- what is found

  order-self : (key : Val) → eq_by_cmp order key key ≡ true
  order-self key = ap is_eq (tied_itself total key)

  key_of-Entry : (key k : Val) (a : List ℕ) (p : ℕ) → Entry self place key ≡ Entry a p k → eq_by_cmp order key k ≡ true
  key_of-Entry key k a p e = let same : key ≡ k = cc in ap (eq_by_cmp order key) (sym same) ∙ order-self key

  -- two entries of this big map are ordered by their keys
  by_key : (key k : Val) → cell_cmp (Entry self place key) (Entry self place k) ≡ order key k
  by_key key k = (λ i. ordering_then (tied_itself nat_list_cmp_total self i) (ordering_then (nat_cmp place place) (order key k)))
      ∙ ap (λ r. ordering_then r (order key k)) (tied_itself nat_cmp_total place)

  tied : (key k : Val) (a : List ℕ) (p : ℕ) → is_one (Entry self place key) (Entry a p k) ≡ (is_here a p && eq_by_cmp order key k)
  tied key k a p = alike _ _
      (λ one.
      let same = one_from (Entry self place key) (Entry a p k) one in
      let address : a ≡ self = cc in
      let at : p ≡ place = cc in
      both_true _ _ (here_of a p address at) (key_of-Entry key k a p same))
      (λ both.
      let address = here_address a p (first_true _ _ both) in
      let at = here_place a p (first_true _ _ both) in
      subst (λ (x : List ℕ × ℕ). is_one (Entry self place key) (Entry x.0 x.1 k) ≡ true) (λ i. (sym address i, sym at i))
      (ap is_eq (by_key key k) ∙ second_true _ _ both))

  chosen : (b c : Bool) (v : Val) (rest : Option Val) → cond b (cond c (Some v) rest) rest ≡ cond (b && c) (Some v) rest
  chosen true c v rest = refl
  chosen false c v rest = refl

  found_before : (key : Val) (b : Bool) (e : Val × Val) (es : List (Val × Val)) →
      find order key (if b then e ∷ es else es) ≡ cond b (cond (eq_by_cmp order key e.0) (Some e.1) (find order key es)) (find order key es)
  found_before key true e es = refl
  found_before key false e es = refl

  found : (key : Val) (es : List (Cell × Val)) → find order key (entries_at self place es) ≡ find cell_cmp (Entry self place key) es
  found key [] = refl
  found key ((Balance a, v) ∷ es) = found key es
  found key ((Storage a, v) ∷ es) = found key es
  found key ((Entry a p k, v) ∷ es) =
      found_before key (is_here a p) (k, v) (entries_at self place es)
      ∙ chosen (is_here a p) (eq_by_cmp order key k) v (find order key (entries_at self place es))
      ∙ (λ i. cond (sym (tied key k a p) i) (Some v) (found key es i))

  -- ---- in what order

  below_before : (k : Val) (b : Bool) (e : Val × Val) (es : List (Val × Val)) → (b ≡ true → is_lt (order k e.0) ≡ true) →
      below_all order k es ≡ true → below_all order k (if b then e ∷ es else es) ≡ true
  below_before k true e es first rest = both_true _ _ (first refl) rest
  below_before k false e es first rest = rest

  below : (k : Val) (es : List (Cell × Val)) → below_all cell_cmp (Entry self place k) es ≡ true → below_all order k (entries_at self place es) ≡ true
  below k [] e = refl
  below k ((Balance a, v) ∷ es) e = below k es (second_true (is_lt (cell_cmp (Entry self place k) (Balance a))) (below_all cell_cmp (Entry self place k) es) e)
  below k ((Storage a, v) ∷ es) e = below k es (second_true (is_lt (cell_cmp (Entry self place k) (Storage a))) (below_all cell_cmp (Entry self place k) es) e)
  below k ((Entry a p key, v) ∷ es) e =
      let first = is_lt (cell_cmp (Entry self place k) (Entry a p key)) in
      let rest = below_all cell_cmp (Entry self place k) es in
      below_before k (is_here a p) (key, v) (entries_at self place es)
      (λ here.
      let address = here_address a p here in
      let at = here_place a p here in
      sym (ap is_lt (by_key k key))
      ∙ subst (λ (x : List ℕ × ℕ). is_lt (cell_cmp (Entry self place k) (Entry x.0 x.1 key)) ≡ true) (λ i. (address i, at i)) (first_true first rest e))
      (below k es (second_true first rest e))

  sorted_before : (b : Bool) (e : Val × Val) (es : List (Val × Val)) → (b ≡ true → below_all order e.0 es ≡ true) →
      is_sorted order es ≡ true → is_sorted order (if b then e ∷ es else es) ≡ true
  sorted_before true e es first rest = both_true _ _ (first refl) rest
  sorted_before false e es first rest = rest

  sorted : (es : List (Cell × Val)) → is_sorted cell_cmp es ≡ true → is_sorted order (entries_at self place es) ≡ true
  sorted [] e = refl
  sorted ((Balance a, v) ∷ es) e = sorted es (second_true (below_all cell_cmp (Balance a) es) (is_sorted cell_cmp es) e)
  sorted ((Storage a, v) ∷ es) e = sorted es (second_true (below_all cell_cmp (Storage a) es) (is_sorted cell_cmp es) e)
  sorted ((Entry a p k, v) ∷ es) e =
      sorted_before (is_here a p) (k, v) (entries_at self place es)
      (λ here.
      below k es
      (subst (λ (x : List ℕ × ℕ). below_all cell_cmp (Entry x.0 x.1 k) es ≡ true) (λ i. (here_address a p here i, here_place a p here i)) (first_true (below_all cell_cmp (Entry a p k) es) (is_sorted cell_cmp es) e)))
      (sorted es (second_true (below_all cell_cmp (Entry a p k) es) (is_sorted cell_cmp es) e))

pub get-map_at : (m : Contents) (self : List ℕ) (place : ℕ) (key : Val) → get (map_at m self place) key ≡ get m (Entry self place key)
get-map_at m self place key =
    get-from_sorted order (entries_at self place (entries m)) key (T_of _ (sorted self place (entries m) (true_of _ (entries_sorted m))))
    ∙ found self place key (entries m)
    ∙ sym (get-entries m (Entry self place key))
