-- One more bucket's digest stands behind those that went by.
use Rattle.std.proofs.Common.{arith, ◌≡◌, ◌++◌, ℕ, ◌<◌, List, ◌+◌, add-one, append_assoc, subst, sym, ap, ◌∙◌}
use Rattle.sha2.specs.Sha256.{sha256}
use Rattle.sha2.specs.declared.Sha256.{Sha256}
use Rattle.sha2.specs.Hashers.{Holds256}
use Rattle.plain_ledger.specs.Ledger.{BalanceEntry}
use Rattle.plain_digest.specs.Digest.{bucket_digests, bucket_text}
use Rattle.plain_digest.proofs.buckets.hash_buckets.Goals as goal

bucket_digests-more : (m : List ℕ) (n : ℕ) (es : List BalanceEntry) → m ++ bucket_digests (n + 1) es ≡ (m ++ bucket_digests n es) ++ sha256 (bucket_text n es)
unfolding bucket_digests
bucket_digests-more m n es = rw add-one (rw append_assoc)

pub loop-bucket-preserved : goal.loop-bucket-preserved
loop-bucket-preserved c = λ m es held hold.
    let i = c.loop-bucket.bucket-index in
    let below : i < 256 = omega (arith, hold.count) in
    let P : Sha256 → Type 0 = λ h. Holds256 h (bucket_text i es) in
    let copied : P c.in_ok-clone.field-0 = subst P (sym c.in_ok-clone.ensures.cases) (hold.each i _ below) in
    let digest : c.finalize-digest.result ≡ sha256 (bucket_text i es) = c.finalize-digest.ensures (bucket_text i es) copied in
    subst (Holds256 c.update.new.self) (ap (λ d. (m ++ bucket_digests i es) ++ d) digest ∙ sym (bucket_digests-more m i es))
    (c.update.ensures (m ++ bucket_digests i es) (c.loop-bucket.invariant m es held hold))

pub returns : goal.returns
returns c = λ m es held hold.
    let whole : c.loop-bucket.bucket-index ≡ 256 = omega (arith, hold.count) in
    subst (λ n. Holds256 c.loop-bucket.hasher (m ++ bucket_digests n es)) whole (c.loop-bucket.invariant m es held hold)
