-- As many hashers as turns, each of the empty text.
use Rattle.std.proofs.Common.{◌≡◌, ℕ, ◌<◌, [], length, slice_index_or}
use Rattle.sha2.specs.declared.Sha256.{Sha256}
use Rattle.sha2.specs.Hashers.{Holds256}
use Rattle.plain_digest.proofs.buckets.new_hashers.Given as goal

abbrev pub invariant-loop : goal.invariant-loop
invariant-loop l = record {
  count : length l.hashers.items ≡ l.counter;
  each : (k : ℕ) (d : Sha256) → k < l.counter → Holds256 (slice_index_or l.hashers.items k d) [];
}
