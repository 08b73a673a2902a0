-- Which values are sound, and which are plain.
use Rattle.std.specs.Prelude.{pos, ◌^◌, List, [], ◌∷◌, Bool, true, false, ◌&&◌, ◌==◌, int_le, length, map, nat_lt}
use Rattle.std.specs.Ordering.{is_lt}
use Rattle.value_core.specs.declared.val.Val.{Val}
use Rattle.value_core.specs.declared.val.Val.TheOpen as one
use Rattle.value_core.specs.Layer.{Layer}
use Rattle.value_core.specs.Order.{order}
use Rattle.value_core.specs.Everywhere.{everywhere}

-- each value is below the next one
abbrev pub ascends : List Val → Bool
ascends [] = true
ascends (a ∷ []) = true
ascends (a ∷ b ∷ vs) = is_lt (order a b) && ascends (b ∷ vs)

-- fewer than 2^32 items
abbrev pub is_countable : {A : Type 0} → List A → Bool
is_countable items = nat_lt (length items) (2 ^ 32)

-- one level of a sound value: ranges, counts, and the order of items and of keys
abbrev pub is_sound_level : Layer Val → Bool
is_sound_level (one.Nat n) = int_le (pos 0) n
is_sound_level (one.Mutez n) = nat_lt n (2 ^ 63)
is_sound_level (one.List items) = is_countable items
is_sound_level (one.Set items) = is_countable items && ascends items
is_sound_level (one.Map entries) = is_countable entries && ascends (map (λ e. e.0) entries)
is_sound_level (one.BigMap place version) = nat_lt place 16
is_sound_level (one.Operation emit) = nat_lt emit.amount (2 ^ 63)
is_sound_level _ = true

-- sound at each level
abbrev pub is_sound : Val → Bool
is_sound = everywhere is_sound_level

-- one level of a value that may be written: no contract, no operation, each big map unchanged
abbrev pub is_settled_level : Layer Val → Bool
is_settled_level (one.BigMap place version) = version == 0
is_settled_level (one.Contract address entry) = false
is_settled_level (one.Operation emit) = false
is_settled_level _ = true

-- sound and settled at each level
abbrev pub is_plain : Val → Bool
is_plain = everywhere (λ x. is_sound_level x && is_settled_level x)
