-- What was gone over is spelt.
use Rattle.std.proofs.Common.{◌≡◌, ◌++◌, take}
use Rattle.std.specs.List.{flat_map}
use Rattle.transfer_blocks.specs.Spelling.{list_bytes}
use Rattle.transfer_blocks.proofs.writer.put_joins.Given as goal

abbrev pub invariant-loop-number : goal.invariant-loop-number
invariant-loop-number l = l.out.items ≡ l.fn.out.items ++ flat_map list_bytes (take l.number l.joins)
