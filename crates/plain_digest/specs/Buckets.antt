-- What 256 hashers hold while the cells go by.
use Rattle.std.specs.Prelude.{◌≡◌, ℕ, ◌<◌, List, length, slice_index_or}
use Rattle.sha2.specs.declared.Sha256.{Sha256}
use Rattle.sha2.specs.Hashers.{Holds256}
use Rattle.plain_ledger.specs.Ledger.{BalanceEntry}
use Rattle.plain_digest.specs.Digest.{bucket_text}

-- the k-th of 256 hashers holds the text of the k-th bucket of these entries
pub record HoldBuckets (hashers : List Sha256) (es : List BalanceEntry) : Type 0 where
  pub count : length hashers ≡ 256
  pub each : (k : ℕ) (d : Sha256) → k < 256 → Holds256 (slice_index_or hashers k d) (bucket_text k es)
