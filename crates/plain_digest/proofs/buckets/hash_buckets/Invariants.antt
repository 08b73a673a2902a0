-- The digests of the buckets that went by stand behind what the hasher held.
use Rattle.std.proofs.Common.{ℕ, List, ◌++◌}
use Rattle.sha2.specs.Hashers.{Holds256}
use Rattle.plain_ledger.specs.Ledger.{BalanceEntry}
use Rattle.plain_digest.specs.Digest.{bucket_digests}
use Rattle.plain_digest.specs.Buckets.{HoldBuckets}
use Rattle.plain_digest.proofs.buckets.hash_buckets.Given as goal

abbrev pub invariant-loop-bucket : goal.invariant-loop-bucket
invariant-loop-bucket l =
    (m : List ℕ) (es : List BalanceEntry) → Holds256 l.initial.hasher m → HoldBuckets l.hashers es
    → Holds256 l.hasher (m ++ bucket_digests l.bucket-index es)
