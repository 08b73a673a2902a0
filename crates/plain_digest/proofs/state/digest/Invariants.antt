-- The hashers hold the cells that went by.
use Rattle.std.proofs.Common.{map, take}
use Rattle.plain_ledger.specs.Ledger.{pair}
use Rattle.plain_digest.specs.Buckets.{HoldBuckets}
use Rattle.plain_digest.proofs.state.digest.Given as goal

abbrev pub invariant-loop-holding : goal.invariant-loop-holding
invariant-loop-holding l = HoldBuckets l.hashers.items (map pair (take l.holding-index l.holding-items))
