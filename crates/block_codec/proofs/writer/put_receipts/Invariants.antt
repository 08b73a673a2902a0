-- What was gone over is spelt, and may be.
use Rattle.std.proofs.Common.{◌≡◌, ◌++◌, take}
use Rattle.std.specs.List.{flat_map, AllByRecursion}
use Rattle.block_codec.specs.Block.{IsReceipt}
use Rattle.block_codec.specs.Spelling.{receipt_bytes}
use Rattle.block_codec.proofs.writer.put_receipts.Given as goal

abbrev pub invariant-loop-receipt : goal.invariant-loop-receipt
invariant-loop-receipt l = record {
  written : l.out.items ≡ l.fn.out.items ++ flat_map receipt_bytes (take l.receipt-index l.receipts);
  spelt : AllByRecursion IsReceipt (take l.receipt-index l.receipts);
}
