-- The last of what stands in order, and what may stand behind it.
use Rattle.std.specs.Prelude.{◌-◌, Bool, true, List, Option, Some, None, length, slice_get}
use Rattle.std.specs.Option.{option_map}
use Rattle.std.specs.Ordering.{is_lt}
use Rattle.value_core.specs.declared.val.Val.{Val}
use Rattle.value_core.specs.Order.{order}

-- the last item, where there is one
abbrev pub last_item : List Val → Option Val
last_item items = slice_get items (length items - 1)

-- the key of the last entry, where there is one
abbrev pub last_key : List (Val × Val) → Option Val
last_key entries = option_map (λ e. e.0) (slice_get entries (length entries - 1))

-- strictly above the one before, where there is one
abbrev pub is_above : Option Val → Val → Bool
is_above None v = true
is_above (Some last) v = is_lt (order last v)
