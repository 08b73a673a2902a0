-- What was gone over is spelt, and may be.
use Rattle.std.proofs.Common.{◌≡◌, ◌++◌, take}
use Rattle.std.specs.List.{flat_map, AllByRecursion}
use Rattle.block_codec.specs.Block.{IsOp}
use Rattle.block_codec.specs.Spelling.{op_bytes}
use Rattle.block_codec.proofs.writer.put_ops.Given as goal

abbrev pub invariant-loop-op : goal.invariant-loop-op
invariant-loop-op l = record {
  written : l.out.items ≡ l.fn.out.items ++ flat_map op_bytes (take l.op-index l.ops);
  spelt : AllByRecursion IsOp (take l.op-index l.ops);
}
