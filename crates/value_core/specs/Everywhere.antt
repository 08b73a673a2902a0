-- A test of every level of a value, which sees the parts of the level as they are.
use Rattle.std.specs.Prelude.{Bool, ◌&&◌}
use Rattle.std.specs.List.{list_all}
use Rattle.value_core.specs.declared.val.Val.{Val}
use Rattle.value_core.specs.declared.val.Val.TheViews.{roll-Val}
use Rattle.value_core.specs.Layer.{Layer, by_level, on_parts, parts_of}

-- the level itself, where each part comes with an answer
abbrev pub whole : Layer (Val × Bool) → Layer Val
whole = on_parts (λ p. p.0)

-- the value, and whether the test holds of each of its levels
abbrev pub tested : (Layer Val → Bool) → Val → Val × Bool
tested test = by_level (λ x. (roll-Val (whole x), test (whole x) && list_all (λ p. p.1) (parts_of x)))

-- the test holds of each level
abbrev pub everywhere : (Layer Val → Bool) → Val → Bool
everywhere test v = (tested test v).1
