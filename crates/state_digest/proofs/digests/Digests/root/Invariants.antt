-- The book's digest and those of the buckets so far are held.
use Rattle.std.proofs.Common.{◌++◌}
use Rattle.sha2.specs.Hashers.{Holds256}
use Rattle.ledger_state.specs.Ledger.{Ledger}
use Rattle.state_digest.specs.Digest.{book_digest, bucket_digests}
use Rattle.state_digest.specs.Digests.{AreDigestsOf}
use Rattle.state_digest.proofs.digests.Digests.root.Given as goal

abbrev pub invariant-loop-digest : goal.invariant-loop-digest
invariant-loop-digest l = (s : Ledger) → AreDigestsOf s l.self → Holds256 l.hasher (book_digest s.book ++ bucket_digests l.digest-index s.cells)
