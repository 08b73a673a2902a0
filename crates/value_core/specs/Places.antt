-- Where a key stands among items in the order of their keys, or would stand.
use Rattle.std.specs.Prelude.{◌≡◌, ℕ, ◌<◌, ◌≤◌, List, length, slice_index_or, Result, Ok, Err}
use Rattle.std.specs.declared.cmp.Ordering.{Ordering}
use Rattle.std.specs.declared.cmp.Ordering.TheVariants.{Less, Greater}

-- i is the place between the keys below q and the keys above it
pub record IsGap {A K : Type 0} (key : A → K) (R : K → K → Ordering) (xs : List A) (q : K) (i : ℕ) : Type 0 where
  pub within : i ≤ length xs
  pub below : (k : ℕ) (d : A) → k < i → R (key (slice_index_or xs k d)) q ≡ Less
  pub above : (k : ℕ) (d : A) → i ≤ k → k < length xs → R (key (slice_index_or xs k d)) q ≡ Greater

-- i is the place of the key q
pub record IsPlace {A K : Type 0} (key : A → K) (xs : List A) (q : K) (i : ℕ) : Type 0 where
  pub within : i < length xs
  pub here : (d : A) → key (slice_index_or xs i d) ≡ q

-- the key's place, or else the gap where it would stand
abbrev pub StandsAt : {A K : Type 0} → (A → K) → (K → K → Ordering) → List A → K → Result ℕ ℕ → Type 0
StandsAt key R xs q (Ok i) = IsPlace key xs q i
StandsAt key R xs q (Err i) = IsGap key R xs q i
