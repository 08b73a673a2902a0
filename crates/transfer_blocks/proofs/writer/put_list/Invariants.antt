-- The count is spelt, and the numbers that were gone over.
use Rattle.std.proofs.Common.{◌≡◌, ◌++◌, length, take}
use Rattle.std.specs.Int.{w32, to_be_bytes}
use Rattle.std.specs.List.{flat_map}
use Rattle.transfer_blocks.proofs.writer.put_list.Given as goal

abbrev pub invariant-loop-number : goal.invariant-loop-number
invariant-loop-number l = l.out.items ≡ l.fn.out.items ++ (to_be_bytes w32 (length l.list) ++ flat_map (to_be_bytes w32) (take l.number-index l.list))
