-- Changes by their numbers.
use Rattle.std.specs.Prelude.{ℕ, Option, None, get_or}
use Rattle.value_core.specs.declared.val.Val.{Val}
use Rattle.value_core.specs.declared.val.Val.TheVariants as value
use Rattle.michelson_rules.specs.Runs.{Changes}

-- the change of a number
abbrev pub change_at : Changes → ℕ → Val × Option Val
change_at made n = get_or made n (value.Unit, None)
