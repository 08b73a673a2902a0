-- Two values that are compared by what stands in them alone.
use Rattle.std.specs.Prelude.{◌≡◌, ◌≢◌}
use Rattle.value_core.specs.declared.val.Val.{Val}
use Rattle.value_core.specs.Layer.{Layer, tag_of}

-- one tag, which isn't that of pairs
abbrev pub AreAlike : Layer Val → Layer Val → Type 0
AreAlike x y = (tag_of x ≡ tag_of y) × (tag_of x ≢ 14)
