-- What was gone over is spelt, and may be.
use Rattle.std.proofs.Common.{◌≡◌, ◌++◌, take}
use Rattle.std.specs.List.{flat_map, AllByRecursion}
use Rattle.block_codec.specs.Block.{IsList}
use Rattle.block_codec.specs.Spelling.{list_bytes}
use Rattle.block_codec.proofs.writer.put_joins.Given as goal

abbrev pub invariant-loop-number : goal.invariant-loop-number
invariant-loop-number l = record {
  written : l.out.items ≡ l.fn.out.items ++ flat_map list_bytes (take l.number l.joins);
  spelt : AllByRecursion IsList (take l.number l.joins);
}
