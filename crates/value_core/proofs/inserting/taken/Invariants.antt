-- What is left and what has moved are all the items, and there is room for more.
use Rattle.std.proofs.Common.{◌≡◌, ◌+◌, ◌<◌, ◌++◌, length, reverse, vec_capacity, vec_len}
use Rattle.value_core.proofs.inserting.taken.Given as goal

abbrev pub invariant-loop-last : goal.invariant-loop-last
invariant-loop-last g l = record {
  all : l.fn.items ≡ l.items ++ reverse l.moved.items;
  room : vec_len l.moved + length l.items < vec_capacity l.moved;
}

abbrev pub decreases-loop-last : goal.decreases-loop-last
decreases-loop-last g l = length l.items
