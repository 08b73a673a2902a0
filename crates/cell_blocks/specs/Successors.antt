-- The least key above a given one, in a finite map.
use Rattle.std.specs.Prelude.{◌≡◌, ◌≢◌, true, Option, Some, None}
use Rattle.std.specs.declared.cmp.Ordering.{Ordering}
use Rattle.std.specs.declared.cmp.Ordering.TheVariants.{Less}
use Rattle.std.specs.FinMap.{FinMap, get, contains_key}

-- the key is above the given one, if one is given
abbrev pub IsAbove : {K : Type 0} → (K → K → Ordering) → Option K → K → Type 0
IsAbove R None key = Unit {0}
IsAbove R (Some given) key = R given key ≡ Less

module _ {K X : Type 0} (R : K → K → Ordering) where
  -- the least key above the given one, with what the map has there
  pub record IsNext (m : FinMap R X) (given : Option K) (key : K) (value : X) : Type 0 where
    pub stands : get m key ≡ Some value
    pub above : IsAbove R given key
    pub least : (other : K) → contains_key m other ≡ true → IsAbove R given other → R other key ≢ Less

  -- the map has no key above the given one
  abbrev pub NoneAbove : FinMap R X → Option K → Type 0
  NoneAbove m given = (other : K) → contains_key m other ≡ true → ¬ IsAbove R given other
