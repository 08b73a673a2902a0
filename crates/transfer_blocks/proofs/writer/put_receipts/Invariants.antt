-- What was gone over is spelt.
use Rattle.std.proofs.Common.{◌≡◌, ◌++◌, take}
use Rattle.std.specs.List.{flat_map}
use Rattle.transfer_blocks.specs.Spelling.{receipt_bytes}
use Rattle.transfer_blocks.proofs.writer.put_receipts.Given as goal

abbrev pub invariant-loop-receipt : goal.invariant-loop-receipt
invariant-loop-receipt l = l.out.items ≡ l.fn.out.items ++ flat_map receipt_bytes (take l.receipt-index l.receipts)
