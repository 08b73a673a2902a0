-- Maps as their entries, which ascend by key: which keys stand above a given one, and what holds of each.
use Rattle.std.proofs.Common.{◌≡◌, ◌≢◌, Bool, true, false, cond, List, [], ◌∷◌, ◌++◌, Option, Some, None, refl, sym, ap, subst, ◌∙◌}
use Rattle.std.specs.Prelude.{if◌then◌else◌}
use Rattle.std.specs.declared.cmp.Ordering.{Ordering}
use Rattle.std.specs.declared.cmp.Ordering.TheVariants.{Less, Equal, Greater}
use Rattle.std.specs.Ordering.{is_lt, is_eq, ordering_reverse, eq_by_cmp}
use Rattle.std.specs.List.{list_all, AllByRecursion}
use Rattle.std.specs.Cmp.{IsTotalOrder, alike_right, eq_by_cmp_equiv}
use Rattle.std.specs.FinMap.{FinMap, IsAntisymmetric, get, insert, entries, entries_sorted, entries-insert, get-entries, find, put, is_sorted}
use Rattle.std.specs.FinMap.Entries.{below_all}
use Rattle.value_core.proofs.Bools.{both_true, first_true, second_true, true_of}
use Rattle.value_core.proofs.PlaceLemmas.{is_Less}

pub tie_of : (r : Ordering) → is_eq r ≡ true → r ≡ Equal
tie_of Less e = absurd cc
tie_of Equal e = refl
tie_of Greater e = absurd cc

pub greater_is : {K : Type 0} {R : K → K → Ordering} → IsTotalOrder R → (x y : K) → R x y ≡ Less → R y x ≡ Greater
greater_is o x y e = o.antisymm y x ∙ ap ordering_reverse e

-- the key is above the last one, if there is one
abbrev pub is_over : {K : Type 0} → (K → K → Ordering) → Option K → K → Bool
is_over R None k = true
is_over R (Some last) k = is_lt (R last k)

-- so are all of these
abbrev pub are_over : {K X : Type 0} → (K → K → Ordering) → Option K → List (K × X) → Bool
are_over R None es = true
are_over R (Some last) es = below_all R last es

pub are_over-nil : {K : Type 0} (X : Type 0) (R : K → K → Ordering) (last : Option K) → are_over {X = X} R last [] ≡ true
are_over-nil X R None = refl
are_over-nil X R (Some last) = refl

-- each key is below this one
abbrev pub are_below : {K X : Type 0} → (K → K → Ordering) → K → List (K × X) → Bool
are_below R k es = list_all (λ e. is_lt (R e.0 k)) es

-- from the first entry on that is above the key, if there is one
abbrev pub from_over : {K X : Type 0} → (K → K → Ordering) → Option K → List (K × X) → List (K × X)
from_over R last [] = []
from_over R last (e ∷ es) = if is_over R last e.0 then e ∷ es else from_over R last es

-- the least key above the last one, with what is found there
pub record IsLeast {K X : Type 0} (R : K → K → Ordering) (last : Option K) (es : List (K × X)) (k : K) (v : X) : Type 0 where
  pub found : find R k es ≡ Some v
  pub over : is_over R last k ≡ true
  pub least : (q : K) (w : X) → find R q es ≡ Some w → is_over R last q ≡ true → R q k ≢ Less

-- a tied key is above what the other is above
over_tied : {K : Type 0} {R : K → K → Ordering} → IsTotalOrder R → (last : Option K) (x y : K) → R x y ≡ Equal → is_over R last x ≡ is_over R last y
over_tied o None x y t = refl
over_tied o (Some last) x y t = ap is_lt (alike_right o x y last t)

module _ {K : Type 0} {R : K → K → Ordering} (o : IsTotalOrder R) {X : Type 0} where
  -- ---- above a key, if there is one

  below_all_less : (x y : K) (es : List (K × X)) → R x y ≡ Less → below_all R y es ≡ true → below_all R x es ≡ true
  below_all_less x y [] p h = refl
  below_all_less x y (e ∷ es) p h =
      let here : R x e.0 ≡ Less = o.trans x y e.0 p (is_Less (R y e.0) (first_true _ _ h)) in
      both_true _ _ (ap is_lt here) (below_all_less x y es p (second_true _ _ h))

  pub are_over-cons : (last : Option K) (e : K × X) (es : List (K × X)) → is_over R last e.0 ≡ true → below_all R e.0 es ≡ true → are_over R last (e ∷ es) ≡ true
  are_over-cons None e es a h = refl
  are_over-cons (Some last) e es a h = both_true _ _ a (below_all_less last e.0 es (is_Less _ a) h)

  pub first_over : (last : Option K) (e : K × X) (es : List (K × X)) → are_over R last (e ∷ es) ≡ true → is_over R last e.0 ≡ true
  first_over None e es h = refl
  first_over (Some last) e es h = first_true _ _ h

  -- ---- what is found

  -- what is found among entries isn't at a key below them
  pub apart_from : (q : K) (v : X) (k : K) (es : List (K × X)) → below_all R k es ≡ true → find R q es ≡ Some v → R k q ≡ Less
  apart_from q v k [] h e = absurd cc
  apart_from q v k (x ∷ es) h e =
      elim (eq_by_cmp R q x.0) as (λ b. eq_by_cmp R q x.0 ≡ b → cond b (Some x.1) (find R q es) ≡ Some v → R k q ≡ Less) [
        | true ↦ λ tied _. alike_right o q x.0 k (tie_of _ tied) ∙ is_Less (R k x.0) (first_true _ _ h)
        | false ↦ λ _ rest. apart_from q v k es (second_true _ _ h) rest
      ] refl e

  pub first_found : (x : K × X) (es : List (K × X)) → find R x.0 (x ∷ es) ≡ Some x.1
  first_found x es = ap (λ b. cond b (Some x.1) (find R x.0 es)) ((eq_by_cmp_equiv o).refl x.0)

  pub found_behind : (q : K) (v : X) (x : K × X) (es : List (K × X)) → below_all R x.0 es ≡ true → find R q es ≡ Some v → find R q (x ∷ es) ≡ Some v
  found_behind q v x es h e =
      let apart : eq_by_cmp R q x.0 ≡ false = ap is_eq (greater_is o x.0 q (apart_from q v x.0 es h e)) in
      ap (λ b. cond b (Some x.1) (find R q es)) apart ∙ e

  -- what holds of each entry holds of what is found
  pub each_found : (P : K × X → Type 0) → IsAntisymmetric R → (es : List (K × X)) → AllByRecursion P es → (q : K) (v : X) → find R q es ≡ Some v → P (q, v)
  each_found P ties [] all q v e = absurd cc
  each_found P ties (x ∷ es) all q v e =
      elim (eq_by_cmp R q x.0) as (λ b. eq_by_cmp R q x.0 ≡ b → cond b (Some x.1) (find R q es) ≡ Some v → P (q, v)) [
        | true ↦ λ tied is.
            let key : x.0 ≡ q = sym (ties q x.0 (tie_of _ tied)) in
            let value : x.1 ≡ v = cc in
            subst P (λ i. (key i, value i)) all.0
        | false ↦ λ _ rest. each_found P ties es all.1 q v rest
      ] refl e

  -- and the other way round
  pub found_each : (P : K × X → Type 0) (es : List (K × X)) → is_sorted R es ≡ true → ((q : K) (v : X) → find R q es ≡ Some v → P (q, v)) → AllByRecursion P es
  found_each P [] up each = tt
  found_each P (x ∷ es) up each = (
    each x.0 x.1 (first_found x es),
    found_each P es (second_true _ _ up) (λ q v e. each q v (found_behind q v x es (first_true _ _ up) e)),
  )

  pub sorted : (m : FinMap R X) → is_sorted R (entries m) ≡ true
  sorted m = true_of _ (entries_sorted m)

  pub each_held : (P : K × X → Type 0) → IsAntisymmetric R → (m : FinMap R X) → AllByRecursion P (entries m) → (q : K) (v : X) → get m q ≡ Some v → P (q, v)
  each_held P ties m all q v e = each_found P ties (entries m) all q v (sym (get-entries m q) ∙ e)

  pub held_each : (P : K × X → Type 0) (m : FinMap R X) → ((q : K) (v : X) → get m q ≡ Some v → P (q, v)) → AllByRecursion P (entries m)
  held_each P m each = found_each P (entries m) (sorted m) (λ q v e. each q v (get-entries m q ∙ e))

  -- ---- one more entry behind all

  pub are_below-less : (k q : K) (es : List (K × X)) → R k q ≡ Less → are_below R k es ≡ true → are_below R q es ≡ true
  are_below-less k q [] p h = refl
  are_below-less k q (e ∷ es) p h =
      let here : R e.0 q ≡ Less = o.trans e.0 k q (is_Less (R e.0 k) (first_true _ _ h)) p in
      both_true _ _ (ap is_lt here) (are_below-less k q es p (second_true _ _ h))

  pub are_below-push : (q : K) (es : List (K × X)) (k : K) (v : X) → R k q ≡ Less → are_below R q es ≡ true → are_below R q (es ++ (k, v) ∷ []) ≡ true
  are_below-push q [] k v p h = both_true _ _ (ap is_lt p) refl
  are_below-push q (e ∷ es) k v p h = both_true _ _ (first_true _ _ h) (are_below-push q es k v p (second_true _ _ h))

  put_last : (k : K) (v : X) (es : List (K × X)) → are_below R k es ≡ true → put R k v es ≡ es ++ (k, v) ∷ []
  put_last k v [] h = refl
  put_last k v (e ∷ es) h =
      let here : R k e.0 ≡ Greater = greater_is o e.0 k (is_Less (R e.0 k) (first_true _ _ h)) in
      rw here (ap (λ (l : List (K × X)). e ∷ l) (put_last k v es (second_true _ _ h)))

  none_found : (k : K) (es : List (K × X)) → are_below R k es ≡ true → find R k es ≡ None
  none_found k [] h = refl
  none_found k (e ∷ es) h =
      let here : R k e.0 ≡ Greater = greater_is o e.0 k (is_Less (R e.0 k) (first_true _ _ h)) in
      rw here (none_found k es (second_true _ _ h))

  pub insert_last : (m : FinMap R X) (k : K) (v : X) → are_below R k (entries m) ≡ true → entries (insert m k v) ≡ entries m ++ (k, v) ∷ []
  insert_last m k v h = entries-insert o m k v ∙ put_last k v (entries m) h

  pub none_held : (m : FinMap R X) (k : K) → are_below R k (entries m) ≡ true → get m k ≡ None
  none_held m k h = get-entries m k ∙ none_found k (entries m) h

  -- ---- the entries above a key

  pub from_none : (es : List (K × X)) → from_over R None es ≡ es
  from_none [] = refl
  from_none (e ∷ es) = refl

  all_over : (k : K) (es : List (K × X)) → below_all R k es ≡ true → from_over R (Some k) es ≡ es
  all_over k [] h = refl
  all_over k (e ∷ es) h = ap (λ b. if b then e ∷ es else from_over R (Some k) es) (first_true (is_lt (R k e.0)) _ h)

  least_first : (ties : IsAntisymmetric R) (last : Option K) (x : K × X) (es : List (K × X)) (k : K) (v : X) → below_all R x.0 es ≡ true → is_over R last x.0 ≡ true → IsLeast R last (x ∷ es) k v →
      x ∷ es ≡ (k, v) ∷ from_over R (Some k) (x ∷ es)
  least_first ties last x es k v h over is =
      elim (eq_by_cmp R k x.0) as (λ b. eq_by_cmp R k x.0 ≡ b → cond b (Some x.1) (find R k es) ≡ Some v → x ∷ es ≡ (k, v) ∷ from_over R (Some k) (x ∷ es)) [
        | true ↦ λ tied e.
            let tie : R k x.0 ≡ Equal = tie_of _ tied in
            let key : x.0 ≡ k = sym (ties k x.0 tie) in
            let value : x.1 ≡ v = cc in
            let rest : from_over R (Some k) (x ∷ es) ≡ es =
            ap (λ (r : Ordering). if is_lt r then x ∷ es else from_over R (Some k) es) tie ∙ all_over k es (subst (λ (q : K). below_all R q es ≡ true) key h) in
            (λ i. (key i, value i) ∷ es) ∙ ap (λ (l : List (K × X)). (k, v) ∷ l) (sym rest)
        | false ↦ λ _ e. absurd (is.least x.0 x.1 (first_found x es) over (apart_from k v x.0 es h e))
      ] refl is.found

  least_behind : (last : Option K) (x : K × X) (es : List (K × X)) (k : K) (v : X) → below_all R x.0 es ≡ true → is_over R last x.0 ≡ false → IsLeast R last (x ∷ es) k v → IsLeast R last es k v
  least_behind last x es k v h under is = record {
    found = elim (eq_by_cmp R k x.0) as (λ b. eq_by_cmp R k x.0 ≡ b → cond b (Some x.1) (find R k es) ≡ Some v → find R k es ≡ Some v) [
      | true ↦ λ tied _. let no : true ≡ false = sym is.over ∙ over_tied o last k x.0 (tie_of _ tied) ∙ under in absurd cc
      | false ↦ λ _ e. e
    ] refl is.found;
    over = is.over;
    least = λ q w e over. is.least q w (found_behind q w x es h e) over;
  }

  pub least_is : IsAntisymmetric R → (last : Option K) (es : List (K × X)) (k : K) (v : X) → is_sorted R es ≡ true → IsLeast R last es k v → from_over R last es ≡ (k, v) ∷ from_over R (Some k) es
  least_is ties last [] k v up is = absurd (let no : None ≡ Some v = is.found in cc)
  least_is ties last (x ∷ es) k v up is =
      elim (is_over R last x.0) as (λ b. is_over R last x.0 ≡ b → (if b then x ∷ es else from_over R last es) ≡ (k, v) ∷ from_over R (Some k) (x ∷ es)) [
        | true ↦ λ over. least_first ties last x es k v (first_true _ _ up) over is
        | false ↦ λ under.
            let behind = least_behind last x es k v (first_true _ _ up) under is in
            let above : R k x.0 ≡ Greater = greater_is o x.0 k (apart_from k v x.0 es (first_true _ _ up) behind.found) in
            least_is ties last es k v (second_true _ _ up) behind
            ∙ ap (λ (r : Ordering). (k, v) ∷ (if is_lt r then x ∷ es else from_over R (Some k) es)) (sym above)
      ] refl

  pub none_is : (last : Option K) (es : List (K × X)) → is_sorted R es ≡ true → ((q : K) (w : X) → find R q es ≡ Some w → is_over R last q ≡ true → ⊥) → from_over R last es ≡ []
  none_is last [] up none = refl
  none_is last (x ∷ es) up none =
      elim (is_over R last x.0) as (λ b. is_over R last x.0 ≡ b → (if b then x ∷ es else from_over R last es) ≡ []) [
        | true ↦ λ over. absurd (none x.0 x.1 (first_found x es) over)
        | false ↦ λ _. none_is last es (second_true _ _ up) (λ q w e over. none q w (found_behind q w x es (first_true _ _ up) e) over)
      ] refl
