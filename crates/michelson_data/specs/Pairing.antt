-- Pairs to the right, from the last part up.
use Rattle.std.specs.Prelude.{List, [], ◌∷◌}
use Rattle.value_core.specs.declared.val.Val.{Val}
use Rattle.value_core.specs.declared.val.Val.TheVariants as value

-- each in a pair with what was made before
abbrev pub paired_up : Val → List Val → Val
paired_up made [] = made
paired_up made (x ∷ xs) = paired_up (value.Pair x made) xs

-- of items whose last part stands first
abbrev pub comb_up : List Val → Val
comb_up [] = value.Unit
comb_up (x ∷ xs) = paired_up x xs
