use Rattle.std.proofs.Common.{◌≡◌, ◌+◌, ◌<◌, ◌++◌, length, reverse, vec_capacity, vec_len}
use Rattle.michelson_data.proofs.changes.inserted.Given as goal

abbrev pub invariant-loop-last : goal.invariant-loop-last
invariant-loop-last g l = record {
  all : l.fn.items ≡ l.items ++ reverse l.room.items;
  room : vec_len l.room + length l.items < vec_capacity l.room;
}

abbrev pub decreases-loop-last : goal.decreases-loop-last
decreases-loop-last g l = length l.items
