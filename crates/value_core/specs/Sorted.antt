-- Sets and maps as ascending lists: look-up, insertion and removal, in any order of keys.
use Rattle.std.specs.Prelude.{Bool, not, List, [], ◌∷◌, map}
use Rattle.std.specs.declared.cmp.Ordering.{Ordering}
use Rattle.std.specs.Ordering.{eq_by_cmp}
use Rattle.std.specs.List.{filter, list_any}
use Rattle.std.specs.FinMap.Entries.{by_order, where_key}
-- in a map, std's `find` looks a key up, and `put` gives it a value
pub use Rattle.std.specs.FinMap.{find, put}

-- the keys of a map
abbrev pub keys_of : {K X : Type 0} → List (K × X) → List K
keys_of = map (λ e. e.0)

module _ {K : Type 0} (R : K → K → Ordering) where
  -- whether the key stands in the set
  abbrev pub has : K → List K → Bool
  has k = list_any (eq_by_cmp R k)

  -- the set with the key in its place, where it doesn't stand there already
  abbrev pub with_key : K → List K → List K
  with_key k [] = k ∷ []
  with_key k (x ∷ xs) = by_order (R k x) (k ∷ x ∷ xs) (x ∷ xs) (x ∷ with_key k xs)

  -- the set without the key
  abbrev pub without_key : K → List K → List K
  without_key k = filter (λ x. not (eq_by_cmp R k x))

  -- the map without the key and its value
  abbrev pub without : {X : Type 0} → K → List (K × X) → List (K × X)
  without k = where_key R (λ x. not (eq_by_cmp R k x))
