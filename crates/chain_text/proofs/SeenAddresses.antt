-- The set of addresses that a row of keys is.
use Rattle.std.proofs.Common.{◌≡◌, ℕ, Bool, true, false, List, [], ◌∷◌, refl, sym, ap, ◌∙◌}
use Rattle.std.specs.Prelude.{◌||◌}
use Rattle.std.specs.declared.cmp.Ordering.{Ordering}
use Rattle.std.specs.declared.cmp.Ordering.TheVariants.{Less, Equal, Greater}
use Rattle.std.specs.List.{list_any}
use Rattle.std.specs.Ordering.{eq_by_cmp, match_ordering, nat_cmp}
use Rattle.std.specs.Cmp.Lexicographic.{nat_list_cmp_total, slice_cmp}
use Rattle.std.specs.BTreeSet.{insert_key}
use Rattle.std.specs.FinSet.{contains, contains-from_list, contains-insert, from_list, insert, nat_cmp-IsAntisymmetric, same_set, slice_cmp-IsAntisymmetric}

-- the order of addresses
abbrev by_bytes : List ℕ → List ℕ → Ordering
by_bytes = slice_cmp nat_cmp

again : (a b : Bool) → (a || b) ≡ (a || (a || b))
again true b = refl
again false b = refl

swapped : (a b c : Bool) → (a || (b || c)) ≡ (b || (a || c))
swapped true true c = refl
swapped true false c = refl
swapped false b c = refl

-- one key more is one that passes more, if it does
any-insert_key : (test : List ℕ → Bool) (key : List ℕ) (keys : List (List ℕ)) → list_any test (insert_key by_bytes keys key) ≡ (test key || list_any test keys)
any-insert_key test key [] = refl
any-insert_key test key (x ∷ keys) = at (any-insert_key test key keys) (by_bytes key x) refl
  where
    at : list_any test (insert_key by_bytes keys key) ≡ (test key || list_any test keys) → (o : Ordering) → by_bytes key x ≡ o → list_any test (match_ordering o (key ∷ x ∷ keys) (x ∷ keys) (x ∷ insert_key by_bytes keys key)) ≡ (test key || (test x || list_any test keys))
    at others Less e = refl
    at others Equal e =
        let same : key ≡ x = slice_cmp-IsAntisymmetric nat_cmp-IsAntisymmetric key x e in
        again (test x) (list_any test keys) ∙ ap (λ (k : List ℕ). test k || (test x || list_any test keys)) (sym same)
    at others Greater e = ap (λ b. test x || b) others ∙ swapped (test x) (test key) (list_any test keys)

-- a row has the keys of the set that it is
pub has : (keys : List (List ℕ)) (q : List ℕ) → contains (from_list {R = by_bytes} keys) q ≡ list_any (eq_by_cmp by_bytes q) keys
has keys q = contains-from_list nat_list_cmp_total keys q

-- one key more is one address more
pub more : (keys : List (List ℕ)) (key : List ℕ) → from_list {R = by_bytes} (insert_key by_bytes keys key) ≡ insert (from_list keys) key
more keys key = same_set nat_list_cmp_total (slice_cmp-IsAntisymmetric nat_cmp-IsAntisymmetric) _ _ (λ q.
    has (insert_key by_bytes keys key) q
    ∙ any-insert_key (eq_by_cmp by_bytes q) key keys
    ∙ sym (contains-insert nat_list_cmp_total (from_list keys) key q ∙ ap (λ b. eq_by_cmp by_bytes q key || b) (has keys q)))
