-- As many buckets as turns, each as it is marked and without a text.
use Rattle.std.proofs.Common.{◌≡◌, ℕ, ◌<◌, [], length, slice_index_or}
use Rattle.state_digest.specs.declared.buckets.Bucket.{Bucket}
use Rattle.state_digest.specs.Texts.{HoldsText}
use Rattle.state_digest.proofs.buckets.blank_buckets.Given as goal

abbrev pub invariant-loop : goal.invariant-loop
invariant-loop l = record {
  count : length l.buckets.items ≡ l.counter;
  each : (k : ℕ) (d : Bucket) → k < l.counter → HoldsText l.marked [] (slice_index_or l.buckets.items k d);
}
