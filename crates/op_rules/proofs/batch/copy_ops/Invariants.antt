-- What has been copied so far is the front of the list.
use Rattle.std.proofs.Common.{◌≡◌, take}
use Rattle.op_rules.proofs.batch.copy_ops.Given as goal

abbrev pub invariant-loop-op : goal.invariant-loop-op
invariant-loop-op l = l.made ≡ take l.op-index l.ops
