-- What is left of the value takes what is left of the room.
use Rattle.std.proofs.Common.{◌≡◌, ◌≤◌, drop, sum_by}
use Rattle.value_core.specs.declared.val.Val.{size-Val}
use Rattle.value_core.specs.Counting.{room_behind}
use Rattle.value_core.specs.Size.{entry_size, size_of}
use Rattle.value_core.proofs.limits.+room.Given as goal

abbrev pub invariant-room_behind-loop-rest : goal.invariant-room_behind-loop-rest
invariant-room_behind-loop-rest l = record {
  same : room_behind (size_of l.fn.v) l.fn.room ≡ room_behind (size_of l.rest) l.left;
  no_deeper : size-Val l.rest ≤ size-Val l.fn.v;
}

abbrev pub invariant-room_behind_items-loop-item : goal.invariant-room_behind_items-loop-item
invariant-room_behind_items-loop-item l =
    room_behind (sum_by size_of l.items) l.fn.room ≡ room_behind (sum_by size_of (drop l.item-index l.items)) l.left

abbrev pub invariant-room_behind_entries-loop-entry : goal.invariant-room_behind_entries-loop-entry
invariant-room_behind_entries-loop-entry l =
    room_behind (sum_by entry_size l.entries) l.fn.room ≡ room_behind (sum_by entry_size (drop l.entry-index l.entries)) l.left
