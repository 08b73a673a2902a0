-- The marked buckets before a number are hashed, in a step each.
use Rattle.std.proofs.Common.{◌≡◌, ℕ, ◌+◌, Bool, List}
use Rattle.state_digest.specs.Digests.{how_many}
use Rattle.state_digest.specs.Shelving.{Held}
use Rattle.state_digest.specs.Texts.{HoldTexts}
use Rattle.state_digest.proofs.Gathering.{AreHashedTo}
use Rattle.state_digest.proofs.buckets.hash_marked.Given as goal

abbrev pub invariant-loop-k : goal.invariant-loop-k
invariant-loop-k g l = record {
  hashed : (marks : ℕ → Bool) (cells : List Held) → HoldTexts marks cells l.buckets → AreHashedTo marks cells l.k l.initial.digests l.digests;
  steps : (marks : ℕ → Bool) (cells : List Held) → HoldTexts marks cells l.buckets → l.steps ≡ l.initial.steps + how_many marks l.k;
}
