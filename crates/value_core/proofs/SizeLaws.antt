-- Sizes are at least 1, and what values leave of a room.
use Rattle.std.proofs.Common.{◌≡◌, ℕ, ◌+◌, ◌≤◌, Some, None, ap, sym, ◌∙◌, arith}
use Rattle.std.proofs.lemmas.Bool.Decides.{nat_tests}
use Rattle.value_core.specs.declared.val.Val.{Val}
use Rattle.value_core.specs.declared.val.Val.TheVariants as value
use Rattle.value_core.specs.declared.val.Val.TheOpen as one
use Rattle.value_core.specs.declared.val.Val.TheViews.{out-Val}
use Rattle.value_core.specs.Layer.{Layer, on_parts, parts_of}
use Rattle.value_core.specs.Counting.{room_behind}
use Rattle.value_core.specs.Size.{level_size, size_of}
use Rattle.value_core.proofs.Levels.{Each, by_level-is, by_level-roll, induction}
use Rattle.value_core.proofs.Sizes.{size-list, size-map, size-set}

abbrev IsCounted : Val → Type 0
IsCounted v = 1 ≤ size_of v

level_counts : (x : Layer Val) → Each IsCounted (parts_of x) → 1 ≤ level_size (on_parts size_of x)
level_counts (one.Pair a b) h = omega (arith, h.0)
level_counts one.Unit h = omega arith
level_counts _ h = omega arith

pub size_of-≥1 : (v : Val) → 1 ≤ size_of v
size_of-≥1 = induction IsCounted (λ v h. omega (arith, level_counts (out-Val v) h, by_level-is level_size v))

pub size-pair : (a b : Val) → size_of (value.Pair a b) ≡ size_of a + size_of b
size-pair a b = ap size_of (sym (value.rolls-Pair a b)) ∙ by_level-roll level_size (one.Pair a b)

-- ---- the first part of a pair, where 1 is kept for the second

pub refused : (a rest left : ℕ) → 1 ≤ rest → room_behind a left ≡ None → room_behind (a + rest) (left + 1) ≡ None
refused a rest left some none = grind (arith, nat_tests)

pub granted : (a rest left room : ℕ) → room_behind a left ≡ Some room → room_behind (a + rest) (left + 1) ≡ room_behind rest (room + 1)
granted a rest left room is = grind (arith, nat_tests)

pub ruleset room_laws = (size-list, size-set, size-map, size_of-≥1)
