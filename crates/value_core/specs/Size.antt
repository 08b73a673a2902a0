-- How large a value is.
use Rattle.std.specs.Prelude.{ℕ, ◌+◌, ◌/◌, length, sum, sum_by}
use Rattle.value_core.specs.declared.val.Val.{Val}
use Rattle.value_core.specs.declared.val.Val.TheOpen as one
use Rattle.value_core.specs.Layer.{Layer, by_level}

-- one level of a value, with the size of each part in its place
abbrev pub level_size : Layer ℕ → ℕ
level_size (one.Text bytes) = 1 + length bytes / 32
level_size (one.Bytes bytes) = 1 + length bytes / 32
level_size (one.Some part) = 1 + part
level_size (one.Left part) = 1 + part
level_size (one.Right part) = 1 + part
level_size (one.Pair a b) = a + b
level_size (one.List items) = 1 + sum items
level_size (one.Set items) = 1 + sum items
level_size (one.Map entries) = 1 + sum_by (λ e. e.0 + e.1) entries
level_size (one.Operation emit) = 1 + emit.param
level_size _ = 1

-- the size of a value; that of an operation goes by its param alone
abbrev pub size_of : Val → ℕ
size_of = by_level level_size

-- the size of a map's entry
abbrev pub entry_size : Val × Val → ℕ
entry_size e = size_of e.0 + size_of e.1
