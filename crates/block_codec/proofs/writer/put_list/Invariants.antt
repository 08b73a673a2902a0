-- The count is spelt, and the numbers that were gone over, each of which fits.
use Rattle.std.proofs.Common.{◌≡◌, ◌<◌, ◌^◌, ◌++◌, length, take}
use Rattle.std.specs.Int.{w32, to_be_bytes}
use Rattle.std.specs.List.{flat_map, AllByRecursion}
use Rattle.block_codec.proofs.writer.put_list.Given as goal

abbrev pub invariant-loop-number : goal.invariant-loop-number
invariant-loop-number l = record {
  written : l.out.items ≡ l.fn.out.items ++ (to_be_bytes w32 (length l.list) ++ flat_map (to_be_bytes w32) (take l.number-index l.list));
  spelt : AllByRecursion (λ n. n < 2 ^ 32) (take l.number-index l.list);
}
