-- Settled values: those that are plain where they are sound.
use Rattle.std.specs.Prelude.{Bool}
use Rattle.value_core.specs.declared.val.Val.{Val}
use Rattle.value_core.specs.Everywhere.{everywhere}
use Rattle.value_core.specs.Sound.{is_settled_level}

-- no contract, no operation, each big map unchanged
abbrev pub is_settled : Val → Bool
is_settled = everywhere is_settled_level
