-- Combs: what a flat pair is written for.
use Rattle.std.specs.Prelude.{List, [], ◌∷◌}

-- each first part in a pair with all that stands behind it
abbrev pub comb : {A : Type 0} → (A → A → A) → List A → A → A
comb pair [] last = last
comb pair (first ∷ firsts) last = pair first (comb pair firsts last)
