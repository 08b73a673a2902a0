-- What was gone over is spelt.
use Rattle.std.proofs.Common.{◌≡◌, ◌++◌, take}
use Rattle.std.specs.List.{flat_map}
use Rattle.transfer_blocks.specs.Spelling.{op_bytes}
use Rattle.transfer_blocks.proofs.writer.put_ops.Given as goal

abbrev pub invariant-loop-op : goal.invariant-loop-op
invariant-loop-op l = l.out.items ≡ l.fn.out.items ++ flat_map op_bytes (take l.op-index l.ops)
