-- The buckets of the touched cells so far are marked.
use Rattle.std.proofs.Common.{[], take}
use Rattle.state_digest.specs.Digests.{is_touched}
use Rattle.state_digest.specs.Texts.{HoldTexts}
use Rattle.state_digest.proofs.buckets.mark_touched.Given as goal

abbrev pub invariant-loop-c : goal.invariant-loop-c
invariant-loop-c l = HoldTexts (λ k. is_touched (take l.c-index l.touched) k) [] l.buckets
